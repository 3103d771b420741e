-- What variables and tables hold, values in a run and symbols in the conditions; and the state of a run. Assumes nothing.
use Rattle.std.proofs.Math.Option.{Option, none}
use Rattle.std.specs.Prelude.{ℕ, suc, Bool, false, cond, List, [], ℤ, pos}
use Rattle.meaning.specs.Values.{put, first}
use Rattle.meaning.specs.Evaluation.{Row, Env}
use Rattle.meaning.specs.Schema.{Schema}
use Rattle.meaning.specs.Tables.{Table, Case, begun}
use Rattle.meaning.specs.Writes.{Outcome, halted, threw, stored}

-- ---- variables and tables

-- what each variable holds, by its kind
pub record Variables (I L C : Type 0) : Type 0 where
  pub ints : ℕ → I
  pub lists : ℕ → L
  pub cursors : ℕ → C

-- the tables now, and at the latest commit
pub record Stored (T : Type 0) : Type 0 where
  pub now : ℕ → T
  pub saved : ℕ → T

-- how many READs and LOADs there were
pub record Taken : Type 0 where
  pub reads : ℕ
  pub loads : ℕ

-- variables, tables and inputs taken
pub record Held (I L C T : Type 0) : Type 0 where
  pub vars : Variables I L C
  pub tables : Stored T
  pub taken : Taken

module _ {T : Type 0} (d : Stored T) where
  -- one table now is changed, while the others stay
  abbrev pub store : ℕ → T → Stored T
  store t x = record { now = put d.now t x; saved = d.saved }

  -- COMMIT saves the tables now
  abbrev pub committed : Stored T
  committed = record { now = d.now; saved = d.now }

  -- ROLLBACK restores the tables of the latest commit
  abbrev pub rolled_back : Stored T
  rolled_back = record { now = d.saved; saved = d.saved }

-- the tables that a write of table t leaves: one is stored only where the write is done
abbrev pub stored_by : Stored Table → ℕ → Outcome → Stored Table
stored_by d t halted = d
stored_by d t (threw x) = d
stored_by d t (stored T) = store d t T

-- one thing changed, while the others stay
module _ {I L C T : Type 0} (s : Held I L C T) where
  -- other variables
  abbrev pub with_vars : Variables I L C → Held I L C T
  with_vars v = record { vars = v; tables = s.tables; taken = s.taken }

  -- other tables
  abbrev pub with_tables : Stored T → Held I L C T
  with_tables d = record { vars = s.vars; tables = d; taken = s.taken }

  -- other counts of inputs
  abbrev pub with_taken : Taken → Held I L C T
  with_taken n = record { vars = s.vars; tables = s.tables; taken = n }

  -- an integer variable set
  abbrev pub set_int : ℕ → I → Held I L C T
  set_int x z = with_vars (record { ints = put s.vars.ints x z; lists = s.vars.lists; cursors = s.vars.cursors })

  -- a list variable set
  abbrev pub set_list : ℕ → L → Held I L C T
  set_list x l = with_vars (record { ints = s.vars.ints; lists = put s.vars.lists x l; cursors = s.vars.cursors })

  -- a cursor set
  abbrev pub set_cursor : ℕ → C → Held I L C T
  set_cursor v c = with_vars (record { ints = s.vars.ints; lists = s.vars.lists; cursors = put s.vars.cursors v c })

  -- a table set
  abbrev pub set_table : ℕ → T → Held I L C T
  set_table t x = with_tables (store s.tables t x)

  -- one READ more
  abbrev pub read_one : Held I L C T
  read_one = with_taken (record { reads = suc s.taken.reads; loads = s.taken.loads })

  -- one LOAD more
  abbrev pub load_one : Held I L C T
  load_one = with_taken (record { reads = s.taken.reads; loads = suc s.taken.loads })

-- ---- the state of a run

-- a cursor: the rows from the one that it is on, or all of them while it is before the first
pub record Cursor : Type 0 where
  pub rows : Table
  pub on : Bool

-- the state of a run
abbrev pub State : Type 0
State = Held ℤ (List ℤ) Cursor Table

-- the row that a cursor is on
abbrev pub at : Cursor → Option Row
at c = cond c.on (first c.rows) none

-- what the variables stand for
abbrev pub env : State → Env ℕ ℕ ℕ
env s = record { int = s.vars.ints; list = s.vars.lists; row = λ v. at (s.vars.cursors v) }

-- integers start at 0, lists NIL, cursors before no row; the tables are the case's
abbrev pub start_on : (ℕ → Table) → State
start_on T = record {
  vars = record { ints = λ x. pos 0; lists = λ x. []; cursors = λ v. record { rows = []; on = false } };
  tables = record { now = T; saved = T };
  taken = record { reads = 0; loads = 0 };
}

-- the start of a run on a case
abbrev pub start : Schema → Case → State
start S κ = start_on (begun S κ)
