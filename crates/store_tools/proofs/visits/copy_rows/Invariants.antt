use Rattle.std.proofs.Common.{◌≡◌, ◌++◌, take, drop}
use Rattle.store_tools.proofs.visits.copy_rows.Given as goal

abbrev pub invariant-loop-position : goal.invariant-loop-position
invariant-loop-position g l = l.place-items ≡ take l.position ((g.S.Store.meaning l.store).tables l.table) ++ drop l.position l.initial.place-items
