use Rattle.std.proofs.Common.{take}
use Rattle.store_tools.specs.Visits.{Visited}
use Rattle.store_tools.proofs.visits.visit_rows.Given as goal

abbrev pub invariant-loop-position : goal.invariant-loop-position
invariant-loop-position g l = Visited g.V.Visitor.takes l.initial.visitor (take l.position ((g.S.Store.meaning l.store).tables l.table)) l.visitor
