-- The roles that the tree of a model gives to the tokens that it is written as, and that reading its text tells just these.
use Rattle.std.specs.Prelude.{◌≡◌, ℕ, ◌≤◌, List, [], ◌∷◌, ◌++◌, map, length}
use Rattle.std.specs.List.{between}
use Rattle.lexer.specs.Tokens.{Lexeme, after}
use Rattle.terms.specs.declared.pull.Pulled.{Pulled}
use Rattle.terms.specs.Pull.{word_of}
use Rattle.terms.specs.Trees.{Tree, literal, lone, head, cell, truth, is_nil, only, pair}
use Rattle.syntax.specs.Trees.{Reference, Check, Table, Act, next, insert, update, delete, Simple, assign, clear, tail, select, caught, read, load, act, commit, rollback, Block, none, simple, branch, loop, Model, WellFormed}
use Rattle.syntax.specs.Grammar.{Spells}
use Rattle.roles.specs.declared.role.Role.{Role}
use Rattle.roles.specs.declared.role.Role.TheVariants.{Plain, Title, Declared, Variable, Attribute}
use Rattle.roles.specs.declared.role.Role.TheVariants as role
use Rattle.roles.specs.declared.role.Declared.TheVariants as declared
use Rattle.roles.specs.declared.role.Use.TheVariants as use_of
use Rattle.roles.specs.declared.role.Access.TheVariants as access
use Rattle.roles.specs.declared.role.Column.TheVariants as column
use Rattle.roles.specs.declared.role.Part.{Part}

-- n, v, v.HEAD, v(a), TRUE or FALSE, (v = NIL), (-e) or (!c), and two sides with a sign between them.
abbrev pub tree_roles : Tree → List Role
tree_roles (literal n) = Plain ∷ []
tree_roles (lone v) = Variable use_of.Lone ∷ []
tree_roles (head v) = Variable use_of.Head ∷ Plain ∷ Plain ∷ []
tree_roles (cell v a) = Variable use_of.Cursor ∷ Plain ∷ Attribute column.Cell ∷ Plain ∷ []
tree_roles (truth b) = Plain ∷ []
tree_roles (is_nil v) = Plain ∷ Variable use_of.Nil ∷ Plain ∷ Plain ∷ Plain ∷ []
tree_roles (only s t) = Plain ∷ Plain ∷ tree_roles t ++ (Plain ∷ [])
tree_roles (pair s l r) = Plain ∷ tree_roles l ++ (Plain ∷ tree_roles r ++ (Plain ∷ []))

-- In a list, a comma stands before each element behind the first.
abbrev pub names_roles : Role → List (List ℕ) → List Role
names_roles r [] = []
names_roles r (a ∷ ns) = Plain ∷ r ∷ names_roles r ns

abbrev pub values_roles : List Tree → List Role
values_roles [] = []
values_roles (e ∷ es) = Plain ∷ tree_roles e ++ values_roles es

-- ,FOREIGN KEY(a) REFERENCES t
abbrev pub references_roles : List Reference → List Role
references_roles [] = []
references_roles (r ∷ rs) = Plain ∷ Plain ∷ Plain ∷ Plain ∷ Declared declared.Foreign ∷ Plain ∷ Plain ∷ Declared declared.References ∷ references_roles rs

-- ,a < n
abbrev pub checks_roles : List Check → List Role
checks_roles [] = []
checks_roles (c ∷ cs) = Plain ∷ Declared declared.Check ∷ Plain ∷ Plain ∷ checks_roles cs

-- ,PRIMARY KEY(a), the references and the checks, );
abbrev pub key_roles : Table → List Role
key_roles t =
    Plain ∷ Plain ∷ Plain ∷ Plain ∷ Declared declared.Key ∷ Plain ∷ references_roles t.references ++ (checks_roles t.checks ++ (Plain ∷ Plain ∷ []))

-- TABLE t(a,b
abbrev pub table_roles : Table → List Role
table_roles t = Plain ∷ Declared declared.Table ∷ Plain ∷ Declared declared.Field ∷ names_roles (Declared declared.Field) t.others ++ key_roles t

abbrev pub tables_roles : List Table → List Role
tables_roles [] = []
tables_roles (t ∷ ts) = table_roles t ++ tables_roles ts

-- NEXT(v), INSERT INTO t VALUES (e,e), UPDATE t SET a = e WHERE c, DELETE FROM t WHERE c.
abbrev pub act_roles : Act → List Role
act_roles (next v) = Plain ∷ Plain ∷ Variable use_of.Next ∷ Plain ∷ []
act_roles (insert t e es) = Plain ∷ Plain ∷ role.Table access.Insert ∷ Plain ∷ Plain ∷ tree_roles e ++ (values_roles es ++ (Plain ∷ []))
act_roles (update t a e c) = Plain ∷ role.Table access.Update ∷ Plain ∷ Attribute column.Set ∷ Plain ∷ tree_roles e ++ (Plain ∷ tree_roles c)
act_roles (delete t c) = Plain ∷ Plain ∷ role.Table access.From ∷ Plain ∷ tree_roles c

-- v = e, v = NIL, v = w.TAIL, v = SELECT a,b FROM t WHERE c, v = CATCH(..), READ(v), LOAD(v), what CATCH may wrap, COMMIT(), ROLLBACK().
abbrev pub simple_roles : Simple → List Role
simple_roles (assign v e) = Variable use_of.Assign ∷ Plain ∷ tree_roles e
simple_roles (clear v) = Variable use_of.Clear ∷ Plain ∷ Plain ∷ []
simple_roles (tail v w) = Variable use_of.Tail ∷ Plain ∷ Variable use_of.Of ∷ Plain ∷ Plain ∷ []
simple_roles (select v a ns t c) =
    Variable use_of.Select ∷ Plain ∷ Plain ∷ Attribute column.Pick ∷ names_roles (Attribute column.Pick) ns ++ (Plain ∷ role.Table access.From ∷ Plain ∷ tree_roles c)
simple_roles (caught v a) = Variable use_of.Catch ∷ Plain ∷ Plain ∷ Plain ∷ act_roles a ++ (Plain ∷ [])
simple_roles (read v) = Plain ∷ Plain ∷ Variable use_of.Read ∷ Plain ∷ []
simple_roles (load v) = Plain ∷ Plain ∷ Variable use_of.Load ∷ Plain ∷ []
simple_roles (act a) = act_roles a
simple_roles commit = Plain ∷ Plain ∷ Plain ∷ []
simple_roles rollback = Plain ∷ Plain ∷ Plain ∷ []

abbrev pub block_roles : Block → List Role
block_roles none = []
block_roles (simple s b) = simple_roles s ++ (Plain ∷ block_roles b)
block_roles (branch c x y b) = Plain ∷ tree_roles c ++ (Plain ∷ block_roles x ++ (Plain ∷ block_roles y ++ (Plain ∷ Plain ∷ block_roles b)))
block_roles (loop c x b) = Plain ∷ tree_roles c ++ (Plain ∷ block_roles x ++ (Plain ∷ Plain ∷ block_roles b))

-- MODEL name, the tables, the statements, ENDMODEL
abbrev pub model_roles : Model → List Role
model_roles m = Plain ∷ Title ∷ tables_roles m.tables ++ (block_roles m.statements ++ (Plain ∷ []))

-- A token of a text as it is pulled: its word, its place and the place behind it.
abbrev pub pulled_of : Lexeme → Pulled
pulled_of t = record { word = word_of t.kind; place = t.place; end = after t }

abbrev pub pulled_in : Part → Pulled
pulled_in p = p.token

-- The bytes of a text that a part is.
abbrev pub bytes_in : List ℕ → Part → List ℕ
bytes_in text p = between p.token.place p.token.end text

-- The parts of a text are these tokens, one for one, with the roles that a model gives to them.
pub record Told (text : List ℕ) (m : Model) (ts : List Lexeme) (parts : List Part) : Type 0 where
  pub tokens : map pulled_in parts ≡ map pulled_of ts
  pub bytes : map (bytes_in text) parts ≡ map (λ t. t.bytes) ts
  pub roles : map (λ p. p.role) parts ≡ model_roles m

-- The parts of a whole text that spells a well-formed model are the tokens that it is laid out as, with the roles that the model gives to them.
abbrev pub Tells : List ℕ → ℕ → List Part → Type 0
Tells text upto parts = (m : Model) → WellFormed m → (s : Spells text m) → length text ≤ upto → Told text m s.0 parts
