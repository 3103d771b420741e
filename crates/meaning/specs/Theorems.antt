-- What is proved of every model, row limit and case, over the definitions of this crate. Assumes nothing.
use Rattle.std.specs.Prelude.{◌≡◌, ℕ, suc, ◌<◌, ◌≤◌, min, true, ◌↔◌, List, [], ◌∷◌, ◌++◌, length, take}
use Rattle.std.proofs.Math.Option.{some}
use Rattle.meaning.specs.Limits.{longest_path}
use Rattle.meaning.specs.Syntax.{Mark}
use Rattle.meaning.specs.Schema.{Schema, Model, key_of}
use Rattle.meaning.specs.Tables.{Table, ascending, Case, begun, Lawful, LawfulTables}
use Rattle.meaning.specs.Paths.{unfit_at}
use Rattle.meaning.specs.State.{Stored, Cursor, State}
use Rattle.meaning.specs.Run.{ahead, some_row, Follows, ComesTo}
use Rattle.meaning.specs.Records.{Record}
use Rattle.meaning.specs.Conditions.{refused, drawn, conditions, refusal}
use Rattle.meaning.specs.Truth.{Satisfies, FirstNotTrue, judgement, answers, judging}
use Rattle.meaning.specs.Following.{follows, departs, Followed, following, Finished, Traced, tracing}
use Rattle.meaning.specs.Ranges.{block_in_range, CaseInRange, InRangeBoth, StateInRange}
use Rattle.meaning.specs.Register.{Event, insert_row, run_update, run_delete, commit_now, roll_back, done, happens, after_events, born, no_rows}

-- of every model and every row limit
abbrev pub Always : (Model → ℕ → Type 0) → Type 0
Always P = (M : Model) (R : ℕ) → P M R

-- ---- conditions and runs

-- conditions agree with runs
pub record Agreement (M : Model) (R : ℕ) : Type 0 where
  -- a case satisfies the list of a path exactly when its tables are lawful and its run follows the path
  pub agrees : (p : List Mark) (rs : List Record) → conditions M p ≡ drawn rs →
      (κ : Case) → Satisfies M.schema R κ rs ↔ (Lawful M.schema R κ × Follows M R κ p)
  -- a path is refused exactly where it does not fit the program: where a mark is missing, unfit or left over
  pub fitness : (p : List Mark) → refusal M p ≡ unfit_at M.schema p M.program
  -- a path that is refused is followed by no run
  pub refuses : (p : List Mark) (n : ℕ) → conditions M p ≡ refused n → (κ : Case) → ¬ Follows M R κ p

-- judging a list says whether it is satisfied, and otherwise where it fails
pub record Judgement (M : Model) (R : ℕ) : Type 0 where
  -- judging answers 0 exactly when the case satisfies the list
  pub satisfied : (p : List Mark) (rs : List Record) → conditions M p ≡ drawn rs →
      (κ : Case) → (judgement M.schema R κ rs ≡ 0) ↔ Satisfies M.schema R κ rs
  -- and otherwise the first record that nothing making the earlier ones true makes true
  pub fails : (p : List Mark) (rs : List Record) → conditions M p ≡ drawn rs →
      (κ : Case) (k : ℕ) → judgement M.schema R κ rs ≡ suc k → FirstNotTrue M.schema R κ rs k
  -- judging answers 0 exactly when following does
  pub alike : (p : List Mark) (κ : Case) (before : Stored Table) →
      (judging M R κ p ≡ answers 0) ↔ ((following M R κ p before).verdict ≡ follows)

-- a case has one path, which tracing finds and following confirms
pub record OnePath (M : Model) (R : ℕ) : Type 0 where
  -- no case satisfies the lists of two paths that differ
  pub one_path : (p q : List Mark) (rs qs : List Record) → conditions M p ≡ drawn rs → conditions M q ≡ drawn qs →
      (κ : Case) → Satisfies M.schema R κ rs → Satisfies M.schema R κ qs → p ≡ q
  -- the marks of a trace that ended or threw are a path that the case follows
  pub traced : (κ : Case) (buffer : ℕ) (before : Stored Table) → let t : Traced = tracing M R κ buffer before in
      Finished t.ending → Lawful M.schema R κ × Follows M R κ t.marks
  -- a path that is followed is traced, if the buffer has room for it
  pub retraced : (p : List Mark) (κ : Case) (buffer : ℕ) (before : Stored Table) → length p ≤ min buffer longest_path →
      Lawful M.schema R κ → Follows M R κ p → let t : Traced = tracing M R κ buffer before in Finished t.ending × (t.marks ≡ p)

-- the tables now and at the latest commit are lawful
abbrev pub LawfulBoth : Schema → ℕ → Stored Table → Type 0
LawfulBoth S R d = LawfulTables S R d.now × LawfulTables S R d.saved

-- following says what the run does
pub record FollowingRight (M : Model) (R : ℕ) : Type 0 where
  -- it answers that the run follows exactly when the tables are lawful and the run follows the path
  pub right : (p : List Mark) (κ : Case) (before : Stored Table) →
      ((following M R κ p before).verdict ≡ follows) ↔ (Lawful M.schema R κ × Follows M R κ p)
  -- the marks agreed are the first of the run's and of the path's; where the run departs, one more is not
  pub agreed : (p : List Mark) (κ : Case) (buffer : ℕ) (before : Stored Table) →
      let f : Followed = following M R κ p before in let t : Traced = tracing M R κ buffer before in f.agreed < min buffer longest_path →
      (take f.agreed t.marks ≡ take f.agreed p) × (f.verdict ≡ departs → ¬ (take (suc f.agreed) t.marks ≡ take (suc f.agreed) p))
  -- the marks of a trace that ended or threw are followed to the last, and the same tables are left
  pub same_tables : (κ : Case) (buffer : ℕ) (before : Stored Table) → let t : Traced = tracing M R κ buffer before in
      Finished t.ending → following M R κ t.marks before ≡ record { verdict = follows; agreed = length t.marks; tables = t.tables }
  -- following and tracing leave lawful tables, now and at the latest commit, if there were such before
  pub lawful_left : (κ : Case) (before : Stored Table) → LawfulBoth M.schema R before → (p : List Mark) (buffer : ℕ) →
      LawfulBoth M.schema R (following M R κ p before).tables × LawfulBoth M.schema R (tracing M R κ buffer before).tables

-- ---- the life of a register

-- no commit among events
abbrev pub NoCommit : List Event → Type 0
NoCommit [] = Unit {0}
NoCommit (insert_row t r ∷ es) = NoCommit es
NoCommit (run_update n η ∷ es) = NoCommit es
NoCommit (run_delete n η ∷ es) = NoCommit es
NoCommit (commit_now ∷ es) = ⊥
NoCommit (roll_back ∷ es) = NoCommit es

-- the life of a register over every list of events from a birth
pub record Life (M : Model) (R : ℕ) : Type 0 where
  -- to be born empty is to be born lawful
  pub empty : Lawful M.schema R no_rows
  -- from a lawful birth on, the tables now and at the latest commit are lawful after each event
  pub lawful : (κ : Case) → Lawful M.schema R κ → (es : List Event) → LawfulBoth M.schema R (after_events M R (born M.schema κ) es)
  -- and every table is in ascending order of its keys
  pub ordered : (κ : Case) (es : List Event) → let d : Stored Table = after_events M R (born M.schema κ) es in
      (t : ℕ) → (ascending (key_of M.schema t) (d.now t) ≡ true) × (ascending (key_of M.schema t) (d.saved t) ≡ true)
  -- an event refused, thrown or halted leaves both tables as they were
  pub unchanged : (d : Stored Table) (e : Event) → ¬ ((happens M R d e).answer ≡ done) → (happens M R d e).tables ≡ d
  -- a commit is done, and leaves the tables now
  pub commit : (d : Stored Table) → ((happens M R d commit_now).answer ≡ done) × ((happens M R d commit_now).tables.now ≡ d.now)
  -- a rollback is done
  pub rollback : (d : Stored Table) → (happens M R d roll_back).answer ≡ done
  -- and shows the tables of the latest commit
  pub back_to_commit : (d : Stored Table) (es later : List Event) → NoCommit later → (after_events M R d (es ++ (commit_now ∷ (later ++ (roll_back ∷ []))))).now ≡ (after_events M R d es).now
  -- or of birth, where there was none
  pub back_to_birth : (κ : Case) (es : List Event) → NoCommit es → (after_events M R (born M.schema κ) (es ++ (roll_back ∷ []))).now ≡ begun M.schema κ

-- ---- values and cursors

-- what a checked model has and the theorem on ranges needs: every number that stands in its program is in range. A number is a
-- value as it stands, so one out of range would be a value out of range
pub record Checked (M : Model) : Type 0 where
  pub numbers : block_in_range M.program ≡ true

-- values stay in range
pub record InRange (M : Model) (R : ℕ) : Type 0 where
  -- in a run of a checked model on a case of values in range, at every step
  pub in_a_run : Checked M → (κ : Case) → CaseInRange κ → (n : ℕ) (s : State) → ComesTo M R κ n s → StateInRange s
  -- in what following and tracing leave, if the tables before were in range
  pub in_what_is_left : Checked M → (κ : Case) → CaseInRange κ → (before : Stored Table) → InRangeBoth before → (p : List Mark) (buffer : ℕ) →
      InRangeBoth (following M R κ p before).tables × InRangeBoth (tracing M R κ buffer before).tables
  -- in a life from a birth of values in range, after each event
  pub in_a_life : (κ : Case) → CaseInRange κ → (es : List Event) → InRangeBoth (after_events M R (born M.schema κ) es)

-- a cursor that is on a row is on an existing row
abbrev pub OnARow : Cursor → Type 0
OnARow c = c.on ≡ true → some_row c.rows ≡ true

-- NEXT never stands on no row: at every step of a run each cursor that is on a row is on an existing one, and NEXT finds the rows behind it
pub record CursorsOnRows (M : Model) (R : ℕ) : Type 0 where
  pub on_a_row : (κ : Case) (n : ℕ) (s : State) → ComesTo M R κ n s → (v : ℕ) → OnARow (s.vars.cursors v)
  pub next_finds : (κ : Case) (n : ℕ) (s : State) → ComesTo M R κ n s → (v : ℕ) → (T : Table) × (ahead (s.vars.cursors v) ≡ some T)
