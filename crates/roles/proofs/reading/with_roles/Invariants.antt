use Rattle.std.proofs.Common.{◌≡◌, ◌++◌, length, vec_items}
use Rattle.roles.specs.Roles.{words, roles_from, given, with_roles}
use Rattle.roles.proofs.reading.with_roles.Given as given-here

abbrev pub invariant-loop-left : given-here.invariant-loop-left
invariant-loop-left l = vec_items l.parts ++ given (roles_from l.mode (words l.left)) l.left ≡ with_roles l.found

abbrev pub decreases-loop-left : given-here.decreases-loop-left
decreases-loop-left l = length l.left
