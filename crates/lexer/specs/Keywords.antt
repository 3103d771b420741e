-- The words that are no names.
use Rattle.std.specs.Prelude.{ℕ, cond, List, [], ◌∷◌, Some, None, codes, Option}
use Rattle.std.specs.Str.{bytes_eq}
use Rattle.lexer.specs.declared.keywords.Keyword.{Keyword}
use Rattle.lexer.specs.declared.keywords.Keyword.TheVariants.{Model, EndModel, Table, Primary, Key, Foreign, References, Nil, Tail, Head, Read, Load, Select, From, Where, Next, Insert, Into, Values, Update, Set, Delete, Commit, Rollback, If, Then, Else, EndIf, While, Do, EndWhile, Catch, True, False}

-- How a keyword is written: in capitals.
abbrev pub spell : Keyword → List ℕ
spell Model = codes "MODEL"
spell EndModel = codes "ENDMODEL"
spell Table = codes "TABLE"
spell Primary = codes "PRIMARY"
spell Key = codes "KEY"
spell Foreign = codes "FOREIGN"
spell References = codes "REFERENCES"
spell Nil = codes "NIL"
spell Tail = codes "TAIL"
spell Head = codes "HEAD"
spell Read = codes "READ"
spell Load = codes "LOAD"
spell Select = codes "SELECT"
spell From = codes "FROM"
spell Where = codes "WHERE"
spell Next = codes "NEXT"
spell Insert = codes "INSERT"
spell Into = codes "INTO"
spell Values = codes "VALUES"
spell Update = codes "UPDATE"
spell Set = codes "SET"
spell Delete = codes "DELETE"
spell Commit = codes "COMMIT"
spell Rollback = codes "ROLLBACK"
spell If = codes "IF"
spell Then = codes "THEN"
spell Else = codes "ELSE"
spell EndIf = codes "ENDIF"
spell While = codes "WHILE"
spell Do = codes "DO"
spell EndWhile = codes "ENDWHILE"
spell Catch = codes "CATCH"
spell True = codes "TRUE"
spell False = codes "FALSE"

-- All of them.
unfoldable pub keywords : List Keyword
keywords =
    Model ∷ EndModel ∷ Table ∷ Primary ∷ Key ∷ Foreign ∷ References ∷ Nil ∷ Tail ∷ Head ∷ Read ∷ Load ∷ Select ∷ From ∷ Where ∷ Next ∷ Insert ∷ Into ∷ Values ∷ Update ∷ Set ∷ Delete ∷ Commit ∷ Rollback ∷ If ∷ Then ∷ Else ∷ EndIf ∷ While ∷ Do ∷ EndWhile ∷ Catch ∷ True ∷ False ∷ []

-- The first of some keywords that is written as a word.
abbrev pub first_spelled : List ℕ → List Keyword → Option Keyword
first_spelled w [] = None
first_spelled w (k ∷ ks) = cond (bytes_eq w (spell k)) (Some k) (first_spelled w ks)

-- The keyword that a word is, if it is one; capitals and small letters differ.
unfoldable pub keyword_of : List ℕ → Option Keyword
keyword_of w = first_spelled w keywords
