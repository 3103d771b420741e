use Rattle.std.proofs.Common.{◌≡◌, ℕ, ◌<◌, false, []}
use Rattle.store.specs.Meaning.{is_table}
use Rattle.store_tools.proofs.Tables.{up_to}
use Rattle.store_tools.proofs.copies.clear.Given as goal

abbrev pub invariant-loop-table : goal.invariant-loop-table
invariant-loop-table g l = (g.S.Store.meaning l.store ≡ up_to l.table (λ _. []) (g.S.Store.meaning l.initial.store))
    × (1 < l.table → (u : ℕ) → is_table u ≡ false → (g.S.Store.meaning l.initial.store).tables u ≡ [])
