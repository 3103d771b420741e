use Rattle.std.proofs.Common.{◌≡◌, ◌≤◌, drop}
use Rattle.names.specs.Schema.{decl_of}
use Rattle.names.specs.Binding.{names_of}
use Rattle.names.specs.Faults.{wrong_from, wrong_in}
use Rattle.names.proofs.faulty.Bindings.first_wrong.Given as goal

abbrev pub invariant-loop-bound : goal.invariant-loop-bound
invariant-loop-bound l = record {
  same : wrong_from (decl_of l.self.schema.now) (names_of l.self.names.now).variables l.spot l.left (drop l.bound-index (names_of l.self.names.now).bounds) ≡ wrong_in (decl_of l.self.schema.now) (names_of l.self.names.now) l.parts;
  tables : l.spot.tables ≤ l.bound-index;
  fields : l.spot.fields ≤ l.bound-index;
}
