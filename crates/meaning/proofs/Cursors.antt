-- A cursor that is on a row is on an existing row. Assumes nothing.
use Rattle.std.proofs.Common.{◌≡◌, ℕ, Bool, true, false, cond, [], ◌∷◌, refl}
use mathlib.Core.Option.{some}
use Rattle.meaning.specs.Values.{rest}
use Rattle.meaning.specs.Schema.{Schema, Model}
use Rattle.meaning.specs.Tables.{Table, Case}
use Rattle.meaning.specs.State.{Cursor, State}
use Rattle.meaning.specs.Run.{ahead, some_row, ComesTo}
use Rattle.meaning.specs.Theorems.{OnARow}
use Rattle.meaning.proofs.Basics.{false_true, put_all}
use Rattle.meaning.proofs.Runs.{Preserves, preserved, comes_keeping}

-- every cursor that is on a row is on an existing one
abbrev Standing : State → Type 0
Standing s = (v : ℕ) → OnARow (s.vars.cursors v)

standing : (S : Schema) (R : ℕ) → Preserves S R Standing
standing S R = record {
  ints = λ s x z q. q;
  lists = λ s x l q. q;
  inputs = λ s n q. q;
  selects = λ s v T q. put_all OnARow s.vars.cursors v (record { rows = T; on = false }) (λ z. absurd (false_true z)) q;
  fetches = λ s v T t q. put_all OnARow s.vars.cursors v (record { rows = T; on = true }) (λ z. t) q;
  writes = λ s w T e q. q;
  commits = λ s q. q;
  rollbacks = λ s q. q;
}

pub run_standing : (M : Model) (R : ℕ) (κ : Case) (n : ℕ) (s : State) → ComesTo M R κ n s → (v : ℕ) → OnARow (s.vars.cursors v)
run_standing M R κ n s e = (comes_keeping M R κ (λ k. Standing) (preserved M.schema R κ Standing (standing M.schema R)) (λ v z. absurd (false_true z)) n s e).1

-- from a row that there is, NEXT finds the rows behind it
pub next_finds : (c : Cursor) → OnARow c → (T : Table) × (ahead c ≡ some T)
next_finds c h = go c.on c.rows h
  where
    go : (b : Bool) (X : Table) → (b ≡ true → some_row X ≡ true) → (T : Table) × (cond b (rest X) (some X) ≡ some T)
    go true [] f = absurd (false_true (f refl))
    go true (r ∷ X) f = (X, refl)
    go false X f = (X, refl)
