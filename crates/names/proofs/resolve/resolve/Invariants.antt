use Rattle.std.proofs.Common.{◌≡◌, ◌+◌, ◌≤◌, length, None}
use Rattle.names.specs.Schema.{decl_of}
use Rattle.names.specs.Binding.{names_of, bound_from, bound_in}
use Rattle.names.proofs.resolve.resolve.Given as goal

abbrev pub invariant-loop-part : goal.invariant-loop-part
invariant-loop-part l = record {
  same : bound_in (decl_of l.schema) l.parts ≡ bound_from (decl_of l.schema) l.scope (names_of l.names) l.left;
  outside : l.scope.clause ≡ None;
  few : l.scope.declared + length l.left ≤ length l.parts;
}

abbrev pub decreases-loop-part : goal.decreases-loop-part
decreases-loop-part l = length l.left
