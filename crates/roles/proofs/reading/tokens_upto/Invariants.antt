use Rattle.std.proofs.Common.{◌-◌, length, vec_items}
use Rattle.roles.proofs.Steps.{Left}
use Rattle.roles.proofs.reading.tokens_upto.Given as goal

abbrev pub invariant-loop-p : goal.invariant-loop-p
invariant-loop-p l = Left l.text l.upto l.at (vec_items l.found)

abbrev pub decreases-loop-p : goal.decreases-loop-p
decreases-loop-p l = length l.text - l.at
