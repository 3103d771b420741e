-- What following and tracing answer, and the tables that each leaves. Every turn of a loop makes a mark, so both are total: they
-- go from mark to mark, over the statements in between that make none. Assumes nothing.
use Rattle.std.proofs.Math.Option.{none, some}
use Rattle.std.specs.Prelude.{ℕ, zero, suc, min, true, false, List, [], ◌∷◌}
use Rattle.meaning.specs.Limits.{longest_path}
use Rattle.meaning.specs.Syntax.{Block, stop, ◌⨾◌, Mark}
use Rattle.meaning.specs.Schema.{Schema, Model}
use Rattle.meaning.specs.Tables.{Table, Case, begun, lawful_tables}
use Rattle.meaning.specs.State.{Stored, State, start}
use Rattle.meaning.specs.Run.{Move, goes, throws, ends, halts, step, Over, at_end, uncaught, halting, leaving, cut_off, leaves}
use Rattle.meaning.specs.Paths.{same_mark}

-- ---- from mark to mark

-- what comes once the statements that make no mark are done: a mark, with the block and the state after it; an uncaught
-- exception; the end; a halt. The last three have the state before them
pub data Coming : Type 0 where
  makes : Mark → Block → State → Coming
  escapes : Mark → State → Coming
  closes : State → Coming
  stalls : State → Coming

-- a statement's step: one that makes no mark goes on with the statements behind it
abbrev pub comes : State → Move → (State → Coming) → Coming
comes s (goes none k s') more = more s'
comes s (goes (some m) k s') more = makes m k s'
comes s (throws m) more = escapes m s
comes s ends more = closes s
comes s halts more = stalls s

-- over the statements that make no mark, to what comes then
abbrev pub advance : Schema → ℕ → Case → Block → State → Coming
advance S R κ stop s = closes s
advance S R κ (x ⨾ k) s = comes s (step S R κ (x ⨾ k) s) (advance S R κ k)

-- ---- following

-- the run follows the path, departs from it, halts, or has an unlawful start
pub data Verdict : Type 0 where
  follows departs halted unlawful : Verdict

-- the number that following answers
abbrev pub verdict_number : Verdict → ℕ
verdict_number follows = 0
verdict_number departs = 1
verdict_number halted = 2
verdict_number unlawful = 3

-- the verdict, the count of marks agreed, and the tables left
pub record Followed : Type 0 where
  pub verdict : Verdict
  pub agreed : ℕ
  pub tables : Stored Table

-- a verdict with no mark agreed, and what is left
abbrev pub closing : Verdict → Over → State → Followed
closing v o s = record { verdict = v; agreed = 0; tables = leaves o s.tables }

-- one mark more agreed
abbrev pub further : Followed → Followed
further f = record { verdict = f.verdict; agreed = suc f.agreed; tables = f.tables }

-- an uncaught exception has ended the run: the path has to end too
abbrev pub thrown_at : List Mark → State → Followed
thrown_at [] s = closing follows uncaught s
thrown_at (m ∷ p) s = closing departs leaving s

-- no mark is left on the path: the run has to end
abbrev pub at_path_end : Coming → Followed
at_path_end (makes m k s) = closing departs leaving s
at_path_end (escapes m s) = closing departs leaving s
at_path_end (closes s) = closing follows at_end s
at_path_end (stalls s) = closing halted halting s

-- the mark m is next on the path, then p
abbrev pub at_mark : Mark → List Mark → (Block → State → Followed) → Coming → Followed
at_mark m p more (makes m' k s) = elim (same_mark m m') [ true ↦ further (more k s) | false ↦ closing departs leaving s ]
at_mark m p more (escapes m' s) = elim (same_mark m m') [ true ↦ further (thrown_at p s) | false ↦ closing departs leaving s ]
at_mark m p more (closes s) = closing departs leaving s
at_mark m p more (stalls s) = closing halted halting s

module _ (S : Schema) (R : ℕ) (κ : Case) where
  -- following a path from a block and a state on
  abbrev pub follow : List Mark → Block → State → Followed
  follow [] k s = at_path_end (advance S R κ k s)
  follow (m ∷ p) k s = at_mark m p (follow p) (advance S R κ k s)

-- the case is loaded first; unlawful tables are not, and leave what was there
abbrev pub following : Model → ℕ → Case → List Mark → Stored Table → Followed
following M R κ p before =
    elim (lawful_tables M.schema R (begun M.schema κ)) [ true ↦ follow M.schema R κ p M.program (start M.schema κ) | false ↦ record { verdict = unlawful; agreed = 0; tables = before } ]

-- ---- tracing

-- the run ended, threw an exception that nothing caught, halted, had an unlawful start, or was cut
pub data Ending : Type 0 where
  ended threw stalled unlawful_start cut : Ending

-- the number that tracing answers
abbrev pub ending_number : Ending → ℕ
ending_number ended = 0
ending_number threw = 1
ending_number stalled = 2
ending_number unlawful_start = 3
ending_number cut = 4

-- the run came to its end, or to an uncaught exception
abbrev pub Finished : Ending → Type 0
Finished ended = Unit {0}
Finished threw = Unit {0}
Finished stalled = ⊥
Finished unlawful_start = ⊥
Finished cut = ⊥

-- the ending, the marks written, and the tables left
pub record Traced : Type 0 where
  pub ending : Ending
  pub marks : List Mark
  pub tables : Stored Table

-- an ending, its last marks, and what is left
abbrev pub finishing : Ending → Over → List Mark → State → Traced
finishing e o p s = record { ending = e; marks = p; tables = leaves o s.tables }

-- one mark more in front
abbrev pub preceded : Mark → Traced → Traced
preceded m t = record { ending = t.ending; marks = m ∷ t.marks; tables = t.tables }

-- the buffer is full: one mark more is a cut; a halt and the end are what they are
abbrev pub at_full : Coming → Traced
at_full (makes m k s) = finishing cut cut_off [] s
at_full (escapes m s) = finishing cut cut_off [] s
at_full (closes s) = finishing ended at_end [] s
at_full (stalls s) = finishing stalled halting [] s

-- there is room for a mark
abbrev pub at_room : (Block → State → Traced) → Coming → Traced
at_room more (makes m k s) = preceded m (more k s)
at_room more (escapes m s) = finishing threw uncaught (m ∷ []) s
at_room more (closes s) = finishing ended at_end [] s
at_room more (stalls s) = finishing stalled halting [] s

module _ (S : Schema) (R : ℕ) (κ : Case) where
  -- tracing into so many marks from a block and a state on
  abbrev pub trace_from : ℕ → Block → State → Traced
  trace_from zero k s = at_full (advance S R κ k s)
  trace_from (suc n) k s = at_room (trace_from n) (advance S R κ k s)

-- into a buffer of so many marks, the case being loaded first
abbrev pub tracing : Model → ℕ → Case → ℕ → Stored Table → Traced
tracing M R κ buffer before =
    elim (lawful_tables M.schema R (begun M.schema κ)) [ true ↦ trace_from M.schema R κ (min buffer longest_path) M.program (start M.schema κ) | false ↦ record { ending = unlawful_start; marks = []; tables = before } ]
