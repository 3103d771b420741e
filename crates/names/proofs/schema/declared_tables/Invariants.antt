use Rattle.std.proofs.Common.{◌≡◌, drop}
use Rattle.names.specs.Schema.{declared_so, declared_from, declared_in}
use Rattle.names.proofs.schema.declared_tables.Given as goal

abbrev pub invariant-loop-part : goal.invariant-loop-part
invariant-loop-part l = declared_from (declared_so l.declaring) (drop l.part-index l.parts) ≡ declared_in l.text l.parts
