use Rattle.std.proofs.Common.{◌≡◌, ◌≤◌, length}
use Rattle.names.specs.Schema.{decl_of}
use Rattle.names.specs.Binding.{names_of, bound_from}
use Rattle.names.proofs.binding.Names.bind_rest.Given as goal

abbrev pub invariant-loop-part : goal.invariant-loop-part
invariant-loop-part l = record {
  same : bound_from (decl_of l.schema) l.scope (names_of l.initial.self) l.parts ≡ bound_from (decl_of l.schema) l.scope (names_of l.self) l.left;
  shorter : length l.left ≤ length l.parts;
}

abbrev pub decreases-loop-part : goal.decreases-loop-part
decreases-loop-part l = length l.left
