-- What each name of a model stands for, told by the tokens around it.
use Rattle.std.specs.Prelude.{ℕ, zero, suc, Bool, cond, ◌&&◌, List, [], ◌∷◌, map, length, Ok, Err, Result, nat_lt, slice_get}
use Rattle.std.specs.Option.{unwrap_or}
use Rattle.faults.specs.declared.Fault.{Fault}
use Rattle.lexer.specs.declared.keywords.Keyword.{Keyword}
use Rattle.lexer.specs.declared.keywords.Keyword.TheVariants as kw
use Rattle.lexer.specs.declared.name.Name.{Name}
use Rattle.lexer.specs.declared.signs.Sign.TheVariants.{Open, Dot, Semicolon, Equal}
use Rattle.terms.specs.declared.pull.Word.{Word}
use Rattle.terms.specs.declared.pull.Word.TheVariants as word
use Rattle.terms.specs.declared.pull.Pulled.{Pulled}
use Rattle.terms.specs.Pull.{pulled, is_sign, is_keyword, is_name}
use Rattle.roles.specs.declared.mode.Mode.{Mode}
use Rattle.roles.specs.declared.mode.Mode.TheVariants as mode
use Rattle.roles.specs.declared.role.Role.{Role}
use Rattle.roles.specs.declared.role.Role.TheVariants as role
use Rattle.roles.specs.declared.role.Declared.TheVariants as declared
use Rattle.roles.specs.declared.role.Use.{Use}
use Rattle.roles.specs.declared.role.Use.TheVariants as use_of
use Rattle.roles.specs.declared.role.Access.TheVariants as access
use Rattle.roles.specs.declared.role.Column.TheVariants as column
use Rattle.roles.specs.declared.role.Part.{Part}

-- The words of some tokens.
abbrev pub words : List Pulled → List Word
words ps = map (λ p. p.word) ps

-- The word so many tokens behind; behind the last there is a number, which goes on with nothing.
abbrev pub at : List Word → ℕ → Word
at ws k = unwrap_or (slice_get ws k) (word.Number 0)

-- Two words are . TAIL
abbrev pub is_tail : Word → Word → Bool
is_tail a b = is_sign Dot a && is_keyword kw.Tail b

-- A statement that begins with a variable: v = NIL, v = SELECT, v = CATCH, v = w.TAIL, or else v = e.
abbrev pub bound_use : Word → Word → Word → Use
bound_use a b c =
    cond (is_keyword kw.Nil a) use_of.Clear (
    cond (is_keyword kw.Select a) use_of.Select (
    cond (is_keyword kw.Catch a) use_of.Catch (
    cond (is_name a && is_tail b c) use_of.Tail (
    use_of.Assign))))

abbrev pub target_use : List Word → Use
target_use ws = cond (is_sign Equal (at ws 0)) (bound_use (at ws 1) (at ws 2) (at ws 3)) use_of.Assign

-- A variable in an expression or a condition: v.TAIL, v.HEAD, v(a), v = NIL, or else v alone.
abbrev pub term_use : List Word → Use
term_use ws =
    cond (is_tail (at ws 0) (at ws 1)) use_of.Of (
    cond (is_sign Dot (at ws 0)) use_of.Head (
    cond (is_sign Open (at ws 0)) use_of.Cursor (
    cond (is_sign Equal (at ws 0) && is_keyword kw.Nil (at ws 1)) use_of.Nil (
    use_of.Lone))))

-- What a name stands for, by the tokens before it and the words behind it.
abbrev pub name_role : Mode → List Word → Role
name_role mode.Title ws = role.Title
name_role mode.Table ws = role.Declared declared.Table
name_role mode.Field ws = role.Declared declared.Field
name_role mode.Key ws = role.Declared declared.Key
name_role mode.Foreign ws = role.Declared declared.Foreign
name_role mode.References ws = role.Declared declared.References
name_role mode.Check ws = role.Declared declared.Check
name_role mode.Target ws = role.Variable (target_use ws)
name_role mode.Read ws = role.Variable use_of.Read
name_role mode.Load ws = role.Variable use_of.Load
name_role mode.Next ws = role.Variable use_of.Next
name_role mode.Insert ws = role.Table access.Insert
name_role mode.Update ws = role.Table access.Update
name_role mode.From ws = role.Table access.From
name_role mode.Set ws = role.Attribute column.Set
name_role mode.Pick ws = role.Attribute column.Pick
name_role mode.Term ws = role.Variable (term_use ws)
name_role mode.Cell ws = role.Attribute column.Cell

-- A token that is no name stands for nothing.
abbrev pub role_of : Mode → Word → List Word → Role
role_of m word.Name ws = name_role m ws
role_of m (word.Number n) ws = role.Plain
role_of m (word.Keyword k) ws = role.Plain
role_of m (word.Sign s) ws = role.Plain

-- What the next name would be behind a keyword; a keyword that tells nothing of it changes nothing.
abbrev pub after_keyword : Keyword → Mode → Mode
after_keyword kw.Model m = mode.Title
after_keyword kw.EndModel m = m
after_keyword kw.Table m = mode.Table
after_keyword kw.Primary m = mode.Key
after_keyword kw.Key m = m
after_keyword kw.Foreign m = mode.Foreign
after_keyword kw.References m = mode.References
after_keyword kw.Nil m = m
after_keyword kw.Tail m = m
after_keyword kw.Head m = m
after_keyword kw.Read m = mode.Read
after_keyword kw.Load m = mode.Load
after_keyword kw.Select m = mode.Pick
after_keyword kw.From m = mode.From
after_keyword kw.Where m = mode.Term
after_keyword kw.Next m = mode.Next
after_keyword kw.Insert m = m
after_keyword kw.Into m = mode.Insert
after_keyword kw.Values m = mode.Term
after_keyword kw.Update m = mode.Update
after_keyword kw.Set m = mode.Set
after_keyword kw.Delete m = m
after_keyword kw.Commit m = m
after_keyword kw.Rollback m = m
after_keyword kw.If m = mode.Term
after_keyword kw.Then m = mode.Target
after_keyword kw.Else m = mode.Target
after_keyword kw.EndIf m = m
after_keyword kw.While m = mode.Term
after_keyword kw.Do m = mode.Target
after_keyword kw.EndWhile m = m
after_keyword kw.Catch m = m
after_keyword kw.True m = m
after_keyword kw.False m = m

-- What the next name would be behind a name.
abbrev pub after_name : Mode → List Word → Mode
after_name mode.Title ws = mode.Target
after_name mode.Table ws = mode.Field
after_name mode.Field ws = mode.Field
after_name mode.Key ws = mode.Check
after_name mode.Foreign ws = mode.Check
after_name mode.References ws = mode.Check
after_name mode.Check ws = mode.Check
after_name mode.Target ws = mode.Term
after_name mode.Read ws = mode.Term
after_name mode.Load ws = mode.Term
after_name mode.Next ws = mode.Term
after_name mode.Insert ws = mode.Term
after_name mode.Update ws = mode.Term
after_name mode.From ws = mode.Term
after_name mode.Set ws = mode.Term
after_name mode.Pick ws = mode.Pick
after_name mode.Term ws = cond (is_sign Open (at ws 0)) mode.Cell mode.Term
after_name mode.Cell ws = mode.Term

-- What the next name would be behind a token: a statement may begin behind a semicolon, and no other sign and no number changes anything.
abbrev pub onward : Mode → Word → List Word → Mode
onward m word.Name ws = after_name m ws
onward m (word.Number n) ws = m
onward m (word.Keyword k) ws = after_keyword k m
onward m (word.Sign s) ws = cond (is_sign Semicolon (word.Sign s)) mode.Target m

-- The roles of some words, one after another.
abbrev pub roles_from : Mode → List Word → List Role
roles_from m [] = []
roles_from m (w ∷ ws) = role_of m w ws ∷ roles_from (onward m w ws) ws

-- A token that begins before a place, and more from its end on: what is no token ends them, and so does the end of the text.
abbrev pub pulled_by : ℕ → (ℕ → List Pulled) → Result Pulled Fault → List Pulled
pulled_by upto more (Err f) = []
pulled_by upto more (Ok p) = cond (nat_lt p.place upto) (p ∷ more p.end) []

-- The tokens of a text from a place on, at most so many, that begin before another.
abbrev pub pulled_from : ℕ → List ℕ → ℕ → ℕ → List Pulled
pulled_from zero text upto at = []
pulled_from (suc n) text upto at = pulled_by upto (pulled_from n text upto) (pulled text at)

-- A text has no more tokens than bytes.
abbrev pub pulled_upto : List ℕ → ℕ → List Pulled
pulled_upto text upto = pulled_from (length text) text upto 0

-- A part as a name.
abbrev pub name_of : Part → Name
name_of p = record { place = p.token.place; end = p.token.end }

-- Tokens with their roles.
abbrev pub part_of : Role → Pulled → Part
part_of r p = record { role = r; token = p }

abbrev pub given : List Role → List Pulled → List Part
given [] ps = []
given (r ∷ rs) [] = []
given (r ∷ rs) (p ∷ ps) = part_of r p ∷ given rs ps

-- Before the first token the next name would be the model's.
abbrev pub with_roles : List Pulled → List Part
with_roles ps = given (roles_from mode.Title (words ps)) ps

-- The tokens of a text that begin before a place, with their roles.
unfoldable pub parts_upto : List ℕ → ℕ → List Part
parts_upto text upto = with_roles (pulled_upto text upto)
