use Rattle.std.proofs.Common.{◌≡◌, ℕ, ◌<◌, false, []}
use Rattle.store.specs.Meaning.{is_table}
use Rattle.store_tools.proofs.Tables.{up_to}
use Rattle.store_tools.proofs.copies.copy_tables.Given as goal

abbrev pub invariant-loop-table : goal.invariant-loop-table
invariant-loop-table g l = (g.B.Store.meaning l.to ≡ up_to l.table (g.A.Store.meaning l.from).tables (g.B.Store.meaning l.initial.to))
    × (1 < l.table → (u : ℕ) → is_table u ≡ false → (g.A.Store.meaning l.from).tables u ≡ [])
