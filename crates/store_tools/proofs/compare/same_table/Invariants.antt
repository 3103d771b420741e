use Rattle.std.proofs.Common.{◌≡◌, take}
use Rattle.store_tools.proofs.compare.same_table.Given as goal

abbrev pub invariant-loop-i : goal.invariant-loop-i
invariant-loop-i g l = take l.i ((g.A.Store.meaning l.a).tables l.table) ≡ take l.i ((g.B.Store.meaning l.b).tables l.table)
