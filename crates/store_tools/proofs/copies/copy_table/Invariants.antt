use Rattle.std.proofs.Common.{◌≡◌, take}
use Rattle.store.specs.Meaning.{updated}
use Rattle.store_tools.proofs.copies.copy_table.Given as goal

abbrev pub invariant-loop-position : goal.invariant-loop-position
invariant-loop-position g l = g.B.Store.meaning l.to ≡ updated (g.B.Store.meaning l.initial.to) l.table (take l.position ((g.A.Store.meaning l.from).tables l.table))
