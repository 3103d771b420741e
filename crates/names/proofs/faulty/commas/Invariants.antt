use Rattle.std.proofs.Common.{◌≡◌, ◌+◌, ◌≤◌, length}
use Rattle.names.specs.Faults.{commas_from}
use Rattle.names.proofs.faulty.commas.Given as goal

abbrev pub invariant-loop-left : goal.invariant-loop-left
invariant-loop-left l = record {
  same : commas_from l.count l.left ≡ commas_from 0 l.behind;
  few : l.count + length l.left ≤ length l.behind;
}

abbrev pub decreases-loop-left : goal.decreases-loop-left
decreases-loop-left l = length l.left
