-- The life of a register: events, what each answers, and the tables after it. Assumes nothing.
use Rattle.std.proofs.Math.Option.{Option, none, some}
use Rattle.std.specs.Prelude.{ℕ, true, false, cond, List, [], ◌∷◌, ◌++◌, map}
use Rattle.meaning.specs.Values.{numbered}
use Rattle.meaning.specs.Syntax.{num, Write, insert, update, delete, target, Statement, silent, Block, stop, ◌⨾◌, next, write, branch, while, Exception}
use Rattle.meaning.specs.Evaluation.{Row, cut, Env, blank}
use Rattle.meaning.specs.Schema.{Shape, Schema, Model}
use Rattle.meaning.specs.Tables.{Table, Case, begun, lawful_tables}
use Rattle.meaning.specs.Writes.{Outcome, halted, threw, stored, perform}
use Rattle.meaning.specs.State.{Stored, stored_by, committed, rolled_back}
use Rattle.meaning.specs.Ranges.{write_in_range}

-- ---- events

-- insert a row into a table; the update, or the delete, of a number from 1, with values for its variables; commit; roll back.
-- A variable that is not handed over is 0, NIL or on no row
pub data Event : Type 0 where
  insert_row : ℕ → Row → Event
  run_update run_delete : ℕ → Env ℕ ℕ ℕ → Event
  commit_now roll_back : Event

-- the writes of a block in text order
abbrev mutual
  pub writes_in : Block → List (Write ℕ ℕ ℕ)
  writes_in stop = []
  writes_in (s ⨾ b) = writes_of s ++ writes_in b

  pub writes_of : Statement → List (Write ℕ ℕ ℕ)
  writes_of (silent x) = []
  writes_of (next v h) = []
  writes_of (write w h) = w ∷ []
  writes_of (branch c a b) = writes_in a ++ writes_in b
  writes_of (while c a) = writes_in a

-- the updates among writes: they are numbered apart from the deletes
abbrev pub updates : List (Write ℕ ℕ ℕ) → List (Write ℕ ℕ ℕ)
updates [] = []
updates (insert t es ∷ ws) = updates ws
updates (update t k e c ∷ ws) = update t k e c ∷ updates ws
updates (delete t c ∷ ws) = updates ws

-- the deletes among writes
abbrev pub deletes : List (Write ℕ ℕ ℕ) → List (Write ℕ ℕ ℕ)
deletes [] = []
deletes (insert t es ∷ ws) = deletes ws
deletes (update t k e c ∷ ws) = deletes ws
deletes (delete t c ∷ ws) = delete t c ∷ deletes ws

-- ---- answers

-- done; the exception; halted; refused, with the number that names no table or statement
pub data Answer : Type 0 where
  done : Answer
  exception : Exception → Answer
  stopped : Answer
  unknown : ℕ → Answer

-- the answer of a write
abbrev pub answer_of : Outcome → Answer
answer_of halted = stopped
answer_of (threw x) = exception x
answer_of (stored T) = done

-- the answer of an event, and the tables after it
pub record Reply : Type 0 where
  pub answer : Answer
  pub tables : Stored Table

module _ (d : Stored Table) where
  -- a number that names nothing leaves the tables
  abbrev pub refuse : ℕ → Reply
  refuse n = record { answer = unknown n; tables = d }

  -- what a write of table t came to, and the tables that it leaves
  abbrev pub reply : ℕ → Outcome → Reply
  reply t o = record { answer = answer_of o; tables = stored_by d t o }

-- a write acts as its statement in a run; a value handed over that is out of range halts it
abbrev pub act : Schema → ℕ → Stored Table → Env ℕ ℕ ℕ → Write ℕ ℕ ℕ → Reply
act S R d η w = reply d (target w) (cond (write_in_range η w) (perform S R η d.now w) halted)

-- ---- an event, and a life

module _ (M : Model) (R : ℕ) where
  -- an insert into table t: its first values, as many as the table has attributes
  abbrev pub inserting : Stored Table → ℕ → Row → Option Shape → Reply
  inserting d t r none = refuse d t
  inserting d t r (some h) = act M.schema R d blank (insert t (map num (cut h.width r)))

  -- the update or the delete of number n
  abbrev pub running : Stored Table → ℕ → Env ℕ ℕ ℕ → Option (Write ℕ ℕ ℕ) → Reply
  running d n η none = refuse d n
  running d n η (some w) = act M.schema R d η w

  -- an event: its answer, and the tables after it
  abbrev pub happens : Stored Table → Event → Reply
  happens d (insert_row t r) = inserting d t r (numbered M.schema.tables t)
  happens d (run_update n η) = running d n η (numbered (updates (writes_in M.program)) n)
  happens d (run_delete n η) = running d n η (numbered (deletes (writes_in M.program)) n)
  happens d commit_now = record { answer = done; tables = committed d }
  happens d roll_back = record { answer = done; tables = rolled_back d }

  -- the tables after events
  abbrev pub after_events : Stored Table → List Event → Stored Table
  after_events d [] = d
  after_events d (e ∷ es) = after_events (happens d e).tables es

-- ---- births

-- a birth: the tables of a case, loaded and committed
abbrev pub born : Schema → Case → Stored Table
born S κ = record { now = begun S κ; saved = begun S κ }

-- loading lawful tables is a new birth; unlawful ones leave the register
abbrev pub loading : Schema → ℕ → Case → Stored Table → Stored Table
loading S R κ d = elim (lawful_tables S R (begun S κ)) [ true ↦ born S κ | false ↦ d ]

-- the case with no rows: to be born empty is to be born of it
abbrev pub no_rows : Case
no_rows = record { rows = λ t. []; reads = []; lists = [] }
