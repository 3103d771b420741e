-- The model of the meaning that a model as it is written stands for, under a dictionary that says what its names stand for.
use Rattle.std.proofs.Math.Option.{Option, none, some}
use Rattle.std.specs.Prelude.{ℕ, suc, Bool, cond, List, [], ◌∷◌, ◌++◌, map, length, pos}
use Rattle.lexer.specs.declared.signs.Sign as lexer
use Rattle.lexer.specs.declared.signs.Sign.TheVariants as sign
use Rattle.terms.specs.Trees.{Tree}
use Rattle.terms.specs.Trees as tree
use Rattle.syntax.specs.Trees as written
use Rattle.meaning.specs.Values.{Order, less, same, more}
use Rattle.meaning.specs.Syntax.{num, var, att, head, get, tru, fls, nil, Statement, silent, write, branch, while, Block, stop, ◌⨾◌}
use Rattle.meaning.specs.Syntax as syntax
use Rattle.meaning.specs.Schema as meaning
use Rattle.model.specs.declared.program.Operator.{Operator}
use Rattle.model.specs.declared.program.Operator.TheVariants.{Plus, Minus, Times, Over, Less, Equal, More, And, Or, Not}
use Rattle.model.specs.Terms.{Exp, Cond, Term, nothing, expression, condition, as_expression, as_condition, apply}

-- What names stand for: the number of a table, the place of an attribute in a table, whether a table has an attribute of that name,
-- the number of a variable, and the place of the attribute of v(a).
pub record Dictionary : Type 0 where
  pub table : List ℕ → ℕ
  pub place : ℕ → List ℕ → ℕ
  pub hides : ℕ → List ℕ → Bool
  pub variable : List ℕ → ℕ
  pub cell : List ℕ → List ℕ → ℕ

-- The operator that a sign is; of the signs of terms only these are any.
abbrev pub operator_of : lexer.Sign → Operator
operator_of sign.Plus = Plus
operator_of sign.Minus = Minus
operator_of sign.Times = Times
operator_of sign.Over = Over
operator_of sign.Less = Less
operator_of sign.Equal = Equal
operator_of sign.More = More
operator_of sign.And = And
operator_of sign.Or = Or
operator_of sign.Not = Not
operator_of sign.Open = Not
operator_of sign.Close = Not
operator_of sign.Comma = Not
operator_of sign.Dot = Not
operator_of sign.Semicolon = Not

-- A check compares by < = or >.
abbrev pub order_of : Operator → Order
order_of Less = less
order_of Equal = same
order_of More = more
order_of Plus = same
order_of Minus = same
order_of Times = same
order_of Over = same
order_of And = same
order_of Or = same
order_of Not = same

module _ (d : Dictionary) where
  -- A lone name in a clause is an attribute where the clause's table has one of that name; elsewhere it is a variable.
  abbrev pub lone : Option ℕ → List ℕ → Exp
  lone none v = var (d.variable v)
  lone (some t) v = cond (d.hides t v) (att (d.place t v)) (var (d.variable v))

  -- A term, in a clause of a table or in none. Only lone names are hidden: v.HEAD, v(a) and (v = NIL) speak of the variable anywhere.
  -- A sign with one side has nothing on its left.
  abbrev pub term_of : Option ℕ → Tree → Term
  term_of k (tree.literal n) = expression (num (pos n))
  term_of k (tree.lone v) = expression (lone k v)
  term_of k (tree.head v) = expression (head (d.variable v))
  term_of k (tree.cell v a) = expression (get (d.variable v) (d.cell v a))
  term_of k (tree.truth b) = condition (cond b tru fls)
  term_of k (tree.is_nil v) = condition (nil (d.variable v))
  term_of k (tree.only s t) = apply (operator_of s) nothing (term_of k t)
  term_of k (tree.pair s l r) = apply (operator_of s) (term_of k l) (term_of k r)

  abbrev pub expression_of : Option ℕ → Tree → Exp
  expression_of k t = as_expression (term_of k t)

  abbrev pub condition_of : Option ℕ → Tree → Cond
  condition_of k t = as_condition (term_of k t)

  -- What CATCH may wrap, with the variable of its CATCH if any. The expression of SET and the condition of WHERE are clauses of the table;
  -- the values of INSERT are no clause.
  abbrev pub act_of : Option ℕ → written.Act → Statement
  act_of h (written.next v) = syntax.next (d.variable v) h
  act_of h (written.insert t e es) = write (syntax.insert (d.table t) (map (expression_of none) (e ∷ es))) h
  act_of h (written.update t a e c) = write (syntax.update (d.table t) (d.place (d.table t) a) (expression_of (some (d.table t)) e) (condition_of (some (d.table t)) c)) h
  act_of h (written.delete t c) = write (syntax.delete (d.table t) (condition_of (some (d.table t)) c)) h

  -- A statement without blocks. The condition of SELECT is a clause of its table; v = CATCH(..) is the act, caught by v.
  abbrev pub statement_of : written.Simple → Statement
  statement_of (written.assign v e) = silent (syntax.assign (d.variable v) (expression_of none e))
  statement_of (written.clear v) = silent (syntax.empty (d.variable v))
  statement_of (written.tail v w) = silent (syntax.tail (d.variable v) (d.variable w))
  statement_of (written.select v a others t c) = silent (syntax.select (d.variable v) (d.table t) (condition_of (some (d.table t)) c))
  statement_of (written.caught v a) = act_of (some (d.variable v)) a
  statement_of (written.read v) = silent (syntax.read (d.variable v))
  statement_of (written.load v) = silent (syntax.load (d.variable v))
  statement_of (written.act a) = act_of none a
  statement_of written.commit = silent syntax.commit
  statement_of written.rollback = silent syntax.rollback

  -- Statements in order; the conditions of IF and WHILE are no clause.
  abbrev pub block_of : written.Block → Block
  block_of written.none = stop
  block_of (written.simple s b) = statement_of s ⨾ block_of b
  block_of (written.branch c x y b) = branch (condition_of none c) (block_of x) (block_of y) ⨾ block_of b
  block_of (written.loop c x b) = while (condition_of none c) (block_of x) ⨾ block_of b

  -- Tables are counted on from n. A table has its first attribute and the others; its key is one of them.
  abbrev pub shapes_of : ℕ → List written.Table → List meaning.Shape
  shapes_of n [] = []
  shapes_of n (t ∷ ts) = record { width = suc (length t.others); key = d.place n t.key } ∷ shapes_of (suc n) ts

  -- A reference of table n leads from one of its attributes to a table.
  abbrev pub ref_of : ℕ → written.Reference → meaning.Ref
  ref_of n r = record { of = n; from = d.place n r.attribute; to = d.table r.table }

  -- A check of table n compares one of its attributes with a number.
  abbrev pub check_of : ℕ → written.Check → meaning.Check
  check_of n c = record { of = n; at = d.place n c.attribute; order = order_of (operator_of c.order); bound = pos c.bound }

  -- The references and the checks of all tables are numbered through the schema, in the order of the text.
  abbrev pub refs_of : ℕ → List written.Table → List meaning.Ref
  refs_of n [] = []
  refs_of n (t ∷ ts) = map (ref_of n) t.references ++ refs_of (suc n) ts

  abbrev pub checks_of : ℕ → List written.Table → List meaning.Check
  checks_of n [] = []
  checks_of n (t ∷ ts) = map (check_of n) t.checks ++ checks_of (suc n) ts

  abbrev pub schema_of : List written.Table → meaning.Schema
  schema_of ts = record { tables = shapes_of 1 ts; refs = refs_of 1 ts; checks = checks_of 1 ts }

  -- A model: its tables are counted from 1.
  abbrev pub elaborate : written.Model → meaning.Model
  elaborate m = record { schema = schema_of m.tables; program = block_of m.statements }
