-- A token that has to come.
use Rattle.std.specs.Prelude.{ℕ, zero, suc, Bool, true, false, cond, List, length, Some, None, Ok, Err, Option, Result, ◌==◌}
use Rattle.faults.specs.declared.Fault.{Fault}
use Rattle.faults.specs.declared.Fault.TheVariants.{NotAllowed, LimitPassed}
use Rattle.lexer.specs.declared.keywords.Keyword as keywords
use Rattle.lexer.specs.declared.keywords.Keyword.TheVariants as keyword_variants
use Rattle.lexer.specs.declared.signs.Sign as signs
use Rattle.lexer.specs.declared.signs.Sign.TheVariants as sign_variants
use Rattle.lexer.specs.Tokens.{Kind, name, number, keyword, sign, Lexeme}
use Rattle.lexer.specs.Lexing.{next_token, with_end}
use Rattle.terms.specs.declared.pull.Word.{Word}
use Rattle.terms.specs.declared.pull.Word.TheVariants.{Name, Number, Keyword, Sign}
use Rattle.terms.specs.declared.pull.Pulled.{Pulled}

-- What a token is, apart from its bytes.
abbrev pub word_of : Kind → Word
word_of name = Name
word_of (number n) = Number n
word_of (keyword k) = Keyword k
word_of (sign s) = Sign s

-- A token has to come: where the text has ended, that is refused at its length.
abbrev pub or_refused : ℕ → Option (Lexeme × ℕ) → Result Pulled Fault
or_refused size None = Err (NotAllowed size)
or_refused size (Some n) = Ok (record { word = word_of n.0.kind; place = n.0.place; end = n.1 })

-- One step after another; a refusal ends them.
abbrev pub and_then : {A B : Type 0} → Result A Fault → (A → Result B Fault) → Result B Fault
and_then (Ok a) k = k a
and_then (Err f) k = Err f

unfoldable pub pulled : List ℕ → ℕ → Result Pulled Fault
pulled text at = and_then (with_end (next_token text at)) (or_refused (length text))

-- Signs and keywords by their numbers, which tell them apart.
abbrev pub sign_number : signs.Sign → ℕ
sign_number sign_variants.Not = 0
sign_number sign_variants.Open = 1
sign_number sign_variants.Close = 2
sign_number sign_variants.Times = 3
sign_number sign_variants.Plus = 4
sign_number sign_variants.Comma = 5
sign_number sign_variants.Minus = 6
sign_number sign_variants.Dot = 7
sign_number sign_variants.Over = 8
sign_number sign_variants.Semicolon = 9
sign_number sign_variants.Less = 10
sign_number sign_variants.Equal = 11
sign_number sign_variants.More = 12
sign_number sign_variants.And = 13
sign_number sign_variants.Or = 14

abbrev pub keyword_number : keywords.Keyword → ℕ
keyword_number keyword_variants.Model = 0
keyword_number keyword_variants.EndModel = 1
keyword_number keyword_variants.Table = 2
keyword_number keyword_variants.Primary = 3
keyword_number keyword_variants.Key = 4
keyword_number keyword_variants.Foreign = 5
keyword_number keyword_variants.References = 6
keyword_number keyword_variants.Nil = 7
keyword_number keyword_variants.Tail = 8
keyword_number keyword_variants.Head = 9
keyword_number keyword_variants.Read = 10
keyword_number keyword_variants.Load = 11
keyword_number keyword_variants.Select = 12
keyword_number keyword_variants.From = 13
keyword_number keyword_variants.Where = 14
keyword_number keyword_variants.Next = 15
keyword_number keyword_variants.Insert = 16
keyword_number keyword_variants.Into = 17
keyword_number keyword_variants.Values = 18
keyword_number keyword_variants.Update = 19
keyword_number keyword_variants.Set = 20
keyword_number keyword_variants.Delete = 21
keyword_number keyword_variants.Commit = 22
keyword_number keyword_variants.Rollback = 23
keyword_number keyword_variants.If = 24
keyword_number keyword_variants.Then = 25
keyword_number keyword_variants.Else = 26
keyword_number keyword_variants.EndIf = 27
keyword_number keyword_variants.While = 28
keyword_number keyword_variants.Do = 29
keyword_number keyword_variants.EndWhile = 30
keyword_number keyword_variants.Catch = 31
keyword_number keyword_variants.True = 32
keyword_number keyword_variants.False = 33

-- A token is this sign.
abbrev pub is_sign : signs.Sign → Word → Bool
is_sign s Name = false
is_sign s (Number n) = false
is_sign s (Keyword k) = false
is_sign s (Sign m) = sign_number m == sign_number s

-- A token is this keyword.
abbrev pub is_keyword : keywords.Keyword → Word → Bool
is_keyword k Name = false
is_keyword k (Number n) = false
is_keyword k (Keyword w) = keyword_number w == keyword_number k
is_keyword k (Sign s) = false

-- A token is a name.
abbrev pub is_name : Word → Bool
is_name Name = true
is_name (Number n) = false
is_name (Keyword k) = false
is_name (Sign s) = false

-- A token is a number.
abbrev pub is_number : ℕ → Word → Bool
is_number n Name = false
is_number n (Number m) = m == n
is_number n (Keyword k) = false
is_number n (Sign s) = false

-- A token is this word.
abbrev pub is_word : Word → (Word → Bool)
is_word Name = is_name
is_word (Number n) = is_number n
is_word (Keyword k) = is_keyword k
is_word (Sign s) = is_sign s

-- A token that may not stand there is refused at its place.
abbrev pub must_be : Bool → Pulled → Result (Unit {0}) Fault
must_be fits p = cond fits (Ok tt) (Err (NotAllowed p.place))

-- Where so many may come, one less may come behind a token; where none may, the token is refused at its place.
abbrev pub taken_from : ℕ → Pulled → Result ℕ Fault
taken_from zero p = Err (LimitPassed p.place)
taken_from (suc n) p = Ok n

-- A token of one sort has to stand there: the place behind it, or the refusal at its place.
abbrev pub must : (Word → Bool) → Pulled → Result ℕ Fault
must fits p = cond (fits p.word) (Ok p.end) (Err (NotAllowed p.place))

abbrev pub word_at : List ℕ → Word → ℕ → Result ℕ Fault
word_at text w at = and_then (pulled text at) (must (is_word w))

abbrev pub sign_at : List ℕ → signs.Sign → ℕ → Result ℕ Fault
sign_at text s at = word_at text (Sign s) at

abbrev pub keyword_at : List ℕ → keywords.Keyword → ℕ → Result ℕ Fault
keyword_at text k at = word_at text (Keyword k) at

abbrev pub name_at : List ℕ → ℕ → Result ℕ Fault
name_at text at = word_at text Name at
