use Rattle.std.proofs.Common.{◌+◌, ◌*◌}
use Rattle.terms.proofs.terms.+terms.Given as goal

abbrev pub decreases-binary_rest : goal.decreases-binary_rest
decreases-binary_rest l = 3 * l.depth + 1

abbrev pub decreases-bracket : goal.decreases-bracket
decreases-bracket l = 3 * l.depth + 2

abbrev pub decreases-read_term : goal.decreases-read_term
decreases-read_term l = 3 * l.depth

abbrev pub decreases-unary_rest : goal.decreases-unary_rest
decreases-unary_rest l = 3 * l.depth + 1
