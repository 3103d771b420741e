use Rattle.store.proofs.Rows.{Passed}
use Rattle.store_tools.proofs.reads.position.Given as goal

abbrev pub invariant-loop-i : goal.invariant-loop-i
invariant-loop-i g l = Passed l.key ((g.S.Store.meaning l.store).tables l.table) l.i
