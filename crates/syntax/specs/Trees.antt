-- Models as they are written, and which are well formed.
use Rattle.std.specs.Prelude.{◌≡◌, ℕ, suc, ◌+◌, ◌≤◌, max, true, List, [], ◌∷◌, ◌++◌, length}
use Rattle.lexer.specs.declared.keywords.Keyword.TheVariants as kw
use Rattle.lexer.specs.declared.signs.Sign.{Sign}
use Rattle.lexer.specs.declared.signs.Sign.TheVariants.{Open, Close, Comma, Dot, Semicolon, Equal}
use Rattle.terms.specs.declared.pull.Word.TheVariants as word
use Rattle.terms.specs.declared.shapes.Want.{Want}
use Rattle.terms.specs.declared.shapes.Want.TheVariants as want
use Rattle.terms.specs.Shapes.{serves}
use Rattle.terms.specs.Trees.{Token, name, number, keyword, sign, Tree, words_of, shape_of, Sound, depth_of}
use Rattle.syntax.specs.Tables.{is_order}

-- FOREIGN KEY(a) REFERENCES t
pub record Reference : Type 0 where
  pub attribute : List ℕ
  pub table : List ℕ

-- a < n
pub record Check : Type 0 where
  pub attribute : List ℕ
  pub order : Sign
  pub bound : ℕ

-- A table has one attribute or more, a key, references, and checks behind them.
pub record Table : Type 0 where
  pub title : List ℕ
  pub attribute : List ℕ
  pub others : List (List ℕ)
  pub key : List ℕ
  pub references : List Reference
  pub checks : List Check

-- What CATCH may wrap: NEXT(v), INSERT INTO t VALUES (e,e), UPDATE t SET a = e WHERE c, DELETE FROM t WHERE c.
pub data Act : Type 0 where
  next : List ℕ → Act
  insert : List ℕ → Tree → List Tree → Act
  update : List ℕ → List ℕ → Tree → Tree → Act
  delete : List ℕ → Tree → Act

-- A statement that holds no block: v = e, v = NIL, v = w.TAIL, v = SELECT a,b FROM t WHERE c, v = CATCH(..), READ(v), LOAD(v), what CATCH may wrap, COMMIT(), ROLLBACK().
pub data Simple : Type 0 where
  assign : List ℕ → Tree → Simple
  clear : List ℕ → Simple
  tail : List ℕ → List ℕ → Simple
  select : List ℕ → List ℕ → List (List ℕ) → List ℕ → Tree → Simple
  caught : List ℕ → Act → Simple
  read : List ℕ → Simple
  load : List ℕ → Simple
  act : Act → Simple
  commit : Simple
  rollback : Simple

-- Statements one after another: none, or one and those behind it. IF has a condition and two blocks, WHILE a condition and one.
pub data Block : Type 0 where
  none : Block
  simple : Simple → Block → Block
  branch : Tree → Block → Block → Block → Block
  loop : Tree → Block → Block → Block

pub record Model : Type 0 where
  pub title : List ℕ
  pub tables : List Table
  pub statements : Block

-- The tokens that each is written as. In a list, a comma stands before each element behind the first.
abbrev pub names_words : List (List ℕ) → List Token
names_words [] = []
names_words (a ∷ ns) = sign Comma ∷ name a ∷ names_words ns

abbrev pub values_words : List Tree → List Token
values_words [] = []
values_words (e ∷ es) = sign Comma ∷ words_of e ++ values_words es

abbrev pub references_words : List Reference → List Token
references_words [] = []
references_words (r ∷ rs) =
    sign Comma ∷ keyword kw.Foreign ∷ keyword kw.Key ∷ sign Open ∷ name r.attribute ∷ sign Close ∷ keyword kw.References ∷ name r.table ∷ references_words rs

abbrev pub checks_words : List Check → List Token
checks_words [] = []
checks_words (c ∷ cs) = sign Comma ∷ name c.attribute ∷ sign c.order ∷ number c.bound ∷ checks_words cs

abbrev pub key_words : Table → List Token
key_words t =
    sign Comma ∷ keyword kw.Primary ∷ keyword kw.Key ∷ sign Open ∷ name t.key ∷ sign Close ∷ references_words t.references ++ (checks_words t.checks ++ (sign Close ∷ sign Semicolon ∷ []))

abbrev pub table_words : Table → List Token
table_words t = keyword kw.Table ∷ name t.title ∷ sign Open ∷ name t.attribute ∷ names_words t.others ++ key_words t

abbrev pub tables_words : List Table → List Token
tables_words [] = []
tables_words (t ∷ ts) = table_words t ++ tables_words ts

abbrev pub act_words : Act → List Token
act_words (next v) = keyword kw.Next ∷ sign Open ∷ name v ∷ sign Close ∷ []
act_words (insert t e es) = keyword kw.Insert ∷ keyword kw.Into ∷ name t ∷ keyword kw.Values ∷ sign Open ∷ words_of e ++ (values_words es ++ (sign Close ∷ []))
act_words (update t a e c) = keyword kw.Update ∷ name t ∷ keyword kw.Set ∷ name a ∷ sign Equal ∷ words_of e ++ (keyword kw.Where ∷ words_of c)
act_words (delete t c) = keyword kw.Delete ∷ keyword kw.From ∷ name t ∷ keyword kw.Where ∷ words_of c

abbrev pub simple_words : Simple → List Token
simple_words (assign v e) = name v ∷ sign Equal ∷ words_of e
simple_words (clear v) = name v ∷ sign Equal ∷ keyword kw.Nil ∷ []
simple_words (tail v w) = name v ∷ sign Equal ∷ name w ∷ sign Dot ∷ keyword kw.Tail ∷ []
simple_words (select v a ns t c) = name v ∷ sign Equal ∷ keyword kw.Select ∷ name a ∷ names_words ns ++ (keyword kw.From ∷ name t ∷ keyword kw.Where ∷ words_of c)
simple_words (caught v a) = name v ∷ sign Equal ∷ keyword kw.Catch ∷ sign Open ∷ act_words a ++ (sign Close ∷ [])
simple_words (read v) = keyword kw.Read ∷ sign Open ∷ name v ∷ sign Close ∷ []
simple_words (load v) = keyword kw.Load ∷ sign Open ∷ name v ∷ sign Close ∷ []
simple_words (act a) = act_words a
simple_words commit = keyword kw.Commit ∷ sign Open ∷ sign Close ∷ []
simple_words rollback = keyword kw.Rollback ∷ sign Open ∷ sign Close ∷ []

abbrev pub block_words : Block → List Token
block_words none = []
block_words (simple s b) = simple_words s ++ (sign Semicolon ∷ block_words b)
block_words (branch c x y b) =
    keyword kw.If ∷ words_of c ++ (keyword kw.Then ∷ block_words x ++ (keyword kw.Else ∷ block_words y ++ (keyword kw.EndIf ∷ sign Semicolon ∷ block_words b)))
block_words (loop c x b) = keyword kw.While ∷ words_of c ++ (keyword kw.Do ∷ block_words x ++ (keyword kw.EndWhile ∷ sign Semicolon ∷ block_words b))

abbrev pub model_words : Model → List Token
model_words m = keyword kw.Model ∷ name m.title ∷ tables_words m.tables ++ (block_words m.statements ++ (keyword kw.EndModel ∷ []))

-- A term that serves: each sign has the sides that it takes, and brackets are at most 12 deep.
abbrev pub Fits : Want → Tree → Type 0
Fits w t = Sound t × (depth_of t ≤ 12) × (serves w (shape_of t) ≡ true)

abbrev pub AllFit : List Tree → Type 0
AllFit [] = Unit {0}
AllFit (e ∷ es) = Fits want.Value e × AllFit es

abbrev pub ActFits : Act → Type 0
ActFits (next v) = Unit {0}
ActFits (insert t e es) = Fits want.Value e × AllFit es
ActFits (update t a e c) = Fits want.Value e × Fits want.Truth c
ActFits (delete t c) = Fits want.Truth c

abbrev pub SimpleFits : Simple → Type 0
SimpleFits (assign v e) = Fits want.Value e
SimpleFits (clear v) = Unit {0}
SimpleFits (tail v w) = Unit {0}
SimpleFits (select v a ns t c) = Fits want.Truth c
SimpleFits (caught v a) = ActFits a
SimpleFits (read v) = Unit {0}
SimpleFits (load v) = Unit {0}
SimpleFits (act a) = ActFits a
SimpleFits commit = Unit {0}
SimpleFits rollback = Unit {0}

abbrev pub BlockFits : Block → Type 0
BlockFits none = Unit {0}
BlockFits (simple s b) = SimpleFits s × BlockFits b
BlockFits (branch c x y b) = Fits want.Truth c × BlockFits x × BlockFits y × BlockFits b
BlockFits (loop c x b) = Fits want.Truth c × BlockFits x × BlockFits b

-- How many statements there are; IF and WHILE count beside those that they hold.
abbrev pub count_of : Block → ℕ
count_of none = 0
count_of (simple s b) = suc (count_of b)
count_of (branch c x y b) = suc (count_of x + count_of y + count_of b)
count_of (loop c x b) = suc (count_of x + count_of b)

-- How many blocks stand one in another.
abbrev pub levels_of : Block → ℕ
levels_of none = 0
levels_of (simple s b) = levels_of b
levels_of (branch c x y b) = max (suc (max (levels_of x) (levels_of y))) (levels_of b)
levels_of (loop c x b) = max (suc (levels_of x)) (levels_of b)

-- A check compares by < = or >.
abbrev pub ChecksFit : List Check → Type 0
ChecksFit [] = Unit {0}
ChecksFit (c ∷ cs) = (is_order (word.Sign c.order) ≡ true) × ChecksFit cs

-- A table has at most 8 attributes.
abbrev pub TablesFit : List Table → Type 0
TablesFit [] = Unit {0}
TablesFit (t ∷ ts) = (length t.others ≤ 7) × ChecksFit t.checks × TablesFit ts

-- The references and the checks of all tables.
abbrev pub references_in : List Table → ℕ
references_in [] = 0
references_in (t ∷ ts) = length t.references + references_in ts

abbrev pub checks_in : List Table → ℕ
checks_in [] = 0
checks_in (t ∷ ts) = length t.checks + checks_in ts

-- A well-formed model: at most 8 tables, 16 references and 16 checks in all, 256 statements, and blocks 8 deep.
pub record WellFormed (m : Model) : Type 0 where
  pub tables_fit : TablesFit m.tables
  pub tables_few : length m.tables ≤ 8
  pub references_few : references_in m.tables ≤ 16
  pub checks_few : checks_in m.tables ≤ 16
  pub statements_fit : BlockFits m.statements
  pub statements_few : count_of m.statements ≤ 256
  pub shallow : levels_of m.statements ≤ 8
