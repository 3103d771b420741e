-- A run, step by step, and the path that it follows. Assumes nothing.
use Rattle.std.specs.Prelude.{◌≡◌, ℕ, zero, suc, Bool, true, false, cond, List, [], ◌∷◌, pos}
use Rattle.std.proofs.Math.Option.{Option, none, some}
use Rattle.meaning.specs.Values.{bind, numbered, rest}
use Rattle.meaning.specs.Syntax.{target, Silent, silent, Block, stop, ◌⨾◌, ◌then◌, assign, empty, tail, read, load, select, next, write, commit, rollback, branch, while, Mark, branched, turned, fetched, wrote}
use Rattle.meaning.specs.Evaluation.{value, truth}
use Rattle.meaning.specs.Schema.{Schema, Model}
use Rattle.meaning.specs.Tables.{Table, Case}
use Rattle.meaning.specs.State.{Stored, committed, rolled_back, with_tables, set_int, set_list, set_cursor, set_table, read_one, load_one, Cursor, State, env, start}
use Rattle.meaning.specs.Writes.{kept, Outcome, halted, threw, stored, perform}

-- ---- a statement's step

-- on, with a mark or none; thrown out with a mark; the end; halted
pub data Move : Type 0 where
  goes : Option Mark → Block → State → Move
  throws : Mark → Move
  ends : Move
  halts : Move

-- halt where a value is missing
abbrev pub need : {A : Type 0} → Option A → (A → Move) → Move
need none f = halts
need (some a) f = f a

-- nothing was thrown: the variable of CATCH, if there is one, becomes 0
abbrev pub done : Option ℕ → Mark → Block → State → Move
done none m k s = goes (some m) k s
done (some v) m k s = goes (some m) k (set_int s v (pos 0))

-- an exception: caught, the variable becomes 1; uncaught, the run is thrown out
abbrev pub thrown : Option ℕ → Mark → Block → State → Move
thrown none m k s = throws m
thrown (some v) m k s = goes (some m) k (set_int s v (pos 1))

-- the rows that NEXT finds: those behind the row that the cursor is on, or all while it is before the first
abbrev pub ahead : Cursor → Option Table
ahead c = cond c.on (rest c.rows) (some c.rows)

-- whether there is a row
abbrev pub some_row : Table → Bool
some_row [] = false
some_row (r ∷ rs) = true

-- NEXT moves to the following row, or throws and stays
abbrev pub fetches : Option ℕ → ℕ → Block → State → Table → Bool → Move
fetches h v k s T true = done h (fetched true) k (set_cursor s v (record { rows = T; on = true }))
fetches h v k s T false = thrown h (fetched false) k s

-- a write halts; or throws, and the tables stay; or is done, and its table is stored
abbrev pub concluded : Option ℕ → ℕ → Block → State → Outcome → Move
concluded h t k s halted = halts
concluded h t k s (threw x) = thrown h (wrote (some x)) k s
concluded h t k s (stored T) = done h (wrote none) k (set_table s t T)

-- what a silent statement makes of the state; none where it needs a value or an input that is missing
abbrev pub effect : Case → Silent → State → Option State
effect κ (assign x e) s = bind (value (env s) none e) (λ z. some (set_int s x z))
effect κ (empty x) s = some (set_list s x [])
effect κ (tail x y) s = bind (rest (s.vars.lists y)) (λ l. some (set_list s x l))
effect κ (read x) s = bind (numbered κ.reads (suc s.taken.reads)) (λ z. some (set_int (read_one s) x z))
effect κ (load x) s = bind (numbered κ.lists (suc s.taken.loads)) (λ l. some (set_list (load_one s) x l))
effect κ (select v t c) s = bind (kept (λ r. truth (env s) (some r) c) (s.tables.now t)) (λ T. some (set_cursor s v (record { rows = T; on = false })))
effect κ commit s = some (with_tables s (committed s.tables))
effect κ rollback s = some (with_tables s (rolled_back s.tables))

module _ (S : Schema) (R : ℕ) (κ : Case) where
  -- what the next statement does
  abbrev pub step : Block → State → Move
  step stop s = ends
  step (silent x ⨾ k) s = need (effect κ x s) (goes none k)
  step (next v h ⨾ k) s = need (ahead (s.vars.cursors v)) (λ T. fetches h v k s T (some_row T))
  step (write w h ⨾ k) s = concluded h (target w) k s (perform S R (env s) s.tables.now w)
  step (branch c a b ⨾ k) s = need (truth (env s) none c) (λ t. goes (some (branched t)) (cond t a b then k) s)
  step (while c a ⨾ k) s = need (truth (env s) none c) (λ t. goes (some (turned t)) (cond t (a then (while c a ⨾ k)) k) s)

  -- ---- the path that a run follows

  -- the marks of a run that is over after this move, or goes on by f; none of one that halts
  abbrev pub followed : (Block → State → Option (List Mark)) → Move → Option (List Mark)
  followed f (goes none k s) = f k s
  followed f (goes (some m) k s) = bind (f k s) (λ p. some (m ∷ p))
  followed f (throws m) = some (m ∷ [])
  followed f ends = some []
  followed f halts = none

  -- the marks of a run that is over, and has not halted, within n steps
  abbrev pub trace : ℕ → Block → State → Option (List Mark)
  trace zero k s = none
  trace (suc n) k s = followed (trace n) (step k s)

  -- ---- the states that a run comes to

  -- what f gives of the block and the state that a move goes on with
  abbrev pub onward : {A : Type 0} → (Block → State → Option A) → Move → Option A
  onward f (goes m k s) = f k s
  onward f (throws m) = none
  onward f ends = none
  onward f halts = none

  -- the state after n steps; none where the run was over before
  abbrev pub state_after : ℕ → Block → State → Option State
  state_after zero k s = some s
  state_after (suc n) k s = onward (state_after n) (step k s)

-- ---- the run of a model on a case

module _ (M : Model) (R : ℕ) (κ : Case) where
  -- a run follows a path exactly when it ends and the marks that it made, in order, are that path's
  abbrev pub Follows : List Mark → Type 0
  Follows p = (n : ℕ) × (trace M.schema R κ n M.program (start M.schema κ) ≡ some p)

  -- a run comes to a state in n steps
  abbrev pub ComesTo : ℕ → State → Type 0
  ComesTo n s = state_after M.schema R κ n M.program (start M.schema κ) ≡ some s

-- ---- what a run leaves of its tables

-- the ways in which a run is over: the program's end, an uncaught exception, a halt, leaving the path, being cut
pub data Over : Type 0 where
  at_end uncaught halting leaving cut_off : Over

-- a normal end commits; all others roll back
abbrev pub leaves : Over → Stored Table → Stored Table
leaves at_end d = committed d
leaves uncaught d = rolled_back d
leaves halting d = rolled_back d
leaves leaving d = rolled_back d
leaves cut_off d = rolled_back d
