-- Values in range: those that a statement names, and the numbers that stand in a program. Assumes nothing.
use Rattle.std.specs.Prelude.{◌≡◌, ℕ, Bool, true, ◌&&◌}
use Rattle.std.proofs.Math.Option.{Option, none, some}
use Rattle.meaning.specs.Values.{all, in_range}
use Rattle.meaning.specs.Syntax.{Expression, num, var, att, head, get, op, neg, Condition, tru, fls, con, non, cmp, nil, Write, insert, update, delete, Silent, Statement, silent, Block, stop, ◌⨾◌, assign, empty, tail, read, load, select, next, write, commit, rollback, branch, while}
use Rattle.meaning.specs.Evaluation.{Row, Env, blank}
use Rattle.meaning.specs.Tables.{Table, Case}
use Rattle.meaning.specs.State.{Stored, State}

-- a row's values are in range, where there is a row
abbrev pub row_in_range : Option Row → Bool
row_in_range none = true
row_in_range (some r) = all in_range r

-- every number that stands there, and every value of a variable that is named, is in range: a list to its end, a cursor's row whole
module _ (η : Env ℕ ℕ ℕ) where
  -- in an expression
  abbrev pub exp_in_range : Expression ℕ ℕ ℕ → Bool
  exp_in_range (num z) = in_range z
  exp_in_range (var x) = in_range (η.int x)
  exp_in_range (att k) = true
  exp_in_range (head x) = all in_range (η.list x)
  exp_in_range (get v k) = row_in_range (η.row v)
  exp_in_range (op o e f) = exp_in_range e && exp_in_range f
  exp_in_range (neg e) = exp_in_range e

  -- in a condition
  abbrev pub cond_in_range : Condition ℕ ℕ ℕ → Bool
  cond_in_range tru = true
  cond_in_range fls = true
  cond_in_range (con o c d) = cond_in_range c && cond_in_range d
  cond_in_range (non c) = cond_in_range c
  cond_in_range (cmp o e f) = exp_in_range e && exp_in_range f
  cond_in_range (nil x) = all in_range (η.list x)

  -- in a write
  abbrev pub write_in_range : Write ℕ ℕ ℕ → Bool
  write_in_range (insert t es) = all exp_in_range es
  write_in_range (update t k e c) = exp_in_range e && cond_in_range c
  write_in_range (delete t c) = cond_in_range c

-- every number that stands in a program is in range: with no variable set there is nothing else to be out of it. In a silent statement
abbrev pub silent_in_range : Silent → Bool
silent_in_range (assign x e) = exp_in_range blank e
silent_in_range (empty x) = true
silent_in_range (tail x y) = true
silent_in_range (read x) = true
silent_in_range (load x) = true
silent_in_range (select v t c) = cond_in_range blank c
silent_in_range commit = true
silent_in_range rollback = true

-- in a block, and in a statement
abbrev mutual
  pub block_in_range : Block → Bool
  block_in_range stop = true
  block_in_range (s ⨾ b) = statement_in_range s && block_in_range b

  pub statement_in_range : Statement → Bool
  statement_in_range (silent x) = silent_in_range x
  statement_in_range (next v h) = true
  statement_in_range (write w h) = write_in_range blank w
  statement_in_range (branch c a b) = cond_in_range blank c && (block_in_range a && block_in_range b)
  statement_in_range (while c a) = cond_in_range blank c && block_in_range a

-- every value of a case is in range
pub record CaseInRange (κ : Case) : Type 0 where
  pub rows : (t : ℕ) → all (all in_range) (κ.rows t) ≡ true
  pub reads : all in_range κ.reads ≡ true
  pub lists : all (all in_range) κ.lists ≡ true

-- every value of a table is in range
abbrev pub TableInRange : Table → Type 0
TableInRange T = all (all in_range) T ≡ true

-- every value of the tables now and at the latest commit is in range
abbrev pub InRangeBoth : Stored Table → Type 0
InRangeBoth d = ((t : ℕ) → TableInRange (d.now t)) × ((t : ℕ) → TableInRange (d.saved t))

-- every value that a run holds is in range
pub record StateInRange (s : State) : Type 0 where
  pub ints : (x : ℕ) → in_range (s.vars.ints x) ≡ true
  pub lists : (x : ℕ) → all in_range (s.vars.lists x) ≡ true
  pub cursors : (v : ℕ) → TableInRange (s.vars.cursors v).rows
  pub now : (t : ℕ) → TableInRange (s.tables.now t)
  pub saved : (t : ℕ) → TableInRange (s.tables.saved t)
