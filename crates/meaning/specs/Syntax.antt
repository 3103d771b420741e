-- Expressions, conditions, statements, blocks, exceptions and marks, every name being resolved to a number. Tables, references
-- and checks are counted from 1 through the schema; attributes are places in a row and variables places in an array, from 0.
-- Assumes nothing.
use Rattle.std.proofs.Math.Option.{Option}
use Rattle.std.specs.Prelude.{ℕ, Bool, List, ℤ}
use Rattle.meaning.specs.Values.{Op, Order, Connective}

-- an expression over names I of integers, L of lists and C of cursors: variables in a program, symbols in the conditions.
-- A number, an integer, `.k` of the row at hand, `v.HEAD`, `v(k)`, `(e + e)`, `(-e)`
pub data Expression (I L C : Type 0) : Type 0 where
  num : ℤ → Expression I L C
  var : I → Expression I L C
  att : ℕ → Expression I L C
  head : L → Expression I L C
  get : C → ℕ → Expression I L C
  op : Op → Expression I L C → Expression I L C → Expression I L C
  neg : Expression I L C → Expression I L C

-- TRUE, FALSE, `(c && c)` or `(c || c)`, `(!c)`, `(e < e)`, `(v = NIL)`
pub data Condition (I L C : Type 0) : Type 0 where
  tru fls : Condition I L C
  con : Connective → Condition I L C → Condition I L C → Condition I L C
  non : Condition I L C → Condition I L C
  cmp : Order → Expression I L C → Expression I L C → Condition I L C
  nil : L → Condition I L C

-- a write of a table: INSERT its values, UPDATE an attribute by an expression where a condition holds, DELETE where one holds
pub data Write (I L C : Type 0) : Type 0 where
  insert : ℕ → List (Expression I L C) → Write I L C
  update : ℕ → ℕ → Expression I L C → Condition I L C → Write I L C
  delete : ℕ → Condition I L C → Write I L C

-- the table that it writes
abbrev pub target : {I L C : Type 0} → Write I L C → ℕ
target (insert t es) = t
target (update t k e c) = t
target (delete t c) = t

-- a statement that makes no mark: `v = e;`, `v = NIL;`, `v = w.TAIL;`, `READ(v);`, `LOAD(v);`, `v = SELECT .. FROM t WHERE c;`, `COMMIT();`,
-- `ROLLBACK();`
pub data Silent : Type 0 where
  assign : ℕ → Expression ℕ ℕ ℕ → Silent
  empty : ℕ → Silent
  tail : ℕ → ℕ → Silent
  read : ℕ → Silent
  load : ℕ → Silent
  select : ℕ → ℕ → Condition ℕ ℕ ℕ → Silent
  commit : Silent
  rollback : Silent

-- a statement is silent, or makes a mark: NEXT and a write, with the variable of their CATCH if any, IF and WHILE
infixr 45 ◌⨾◌
mutual
  pub data Statement : Type 0 where
    silent : Silent → Statement
    next : ℕ → Option ℕ → Statement
    write : Write ℕ ℕ ℕ → Option ℕ → Statement
    branch : Condition ℕ ℕ ℕ → Block → Block → Statement
    while : Condition ℕ ℕ ℕ → Block → Statement

  -- statements in order
  pub data Block : Type 0 where
    stop : Block
    ◌⨾◌ : Statement → Block → Block

-- one block, then another
infixr 45 ◌then◌
abbrev pub ◌then◌ : Block → Block → Block
stop then k = k
(s ⨾ b) then k = s ⨾ (b then k)

-- the exceptions of a write: two rows share a key; reference n finds no key; check n is broken; reference n holds a row
pub data Exception : Type 0 where
  K : Exception
  F C D : ℕ → Exception

-- a mark: T and E are `branched true` and `branched false`, L and O `turned true` and `turned false`, N and X `fetched true` and
-- `fetched false`, W is `wrote none`, and an exception of a write is `wrote (some x)`
pub data Mark : Type 0 where
  branched turned fetched : Bool → Mark
  wrote : Option Exception → Mark
