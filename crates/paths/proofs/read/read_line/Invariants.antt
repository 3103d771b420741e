use Rattle.std.proofs.Common.{◌-◌, ◌≤◌, vec_items, vec_len}
use Rattle.paths.proofs.Laws.{Reached}
use Rattle.paths.proofs.read.read_line.Given as goal

abbrev pub invariant-loop-marks : goal.invariant-loop-marks
invariant-loop-marks l = Reached l.line (vec_items l.marks) l.at × (vec_len l.marks ≤ 512)

abbrev pub decreases-loop-marks : goal.decreases-loop-marks
decreases-loop-marks l = 512 - vec_len l.marks
