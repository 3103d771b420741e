use Rattle.std.proofs.Common.{◌≡◌, drop}
use Rattle.store.specs.Meaning.{updated}
use Rattle.store_tools.proofs.copies.clear_table.Given as goal

abbrev pub invariant-loop : goal.invariant-loop
invariant-loop g l = g.S.Store.meaning l.store ≡ updated (g.S.Store.meaning l.initial.store) l.table (drop l.counter ((g.S.Store.meaning l.initial.store).tables l.table))
