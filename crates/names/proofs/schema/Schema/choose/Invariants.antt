use Rattle.std.proofs.Common.{◌≡◌, length}
use Rattle.names.specs.Schema.{decl_of}
use Rattle.names.specs.Scopes.{picked_from, chosen}
use Rattle.names.proofs.schema.Schema.choose.Given as goal

abbrev pub invariant-loop-left : goal.invariant-loop-left
invariant-loop-left l = picked_from (decl_of l.self) l.choice l.left ≡ chosen (decl_of l.self) l.behind

abbrev pub decreases-loop-left : goal.decreases-loop-left
decreases-loop-left l = length l.left
