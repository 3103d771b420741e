use Rattle.std.proofs.Common.{map, sym, ◌∙◌}
use Rattle.names.specs.Schema.{declared_so, table_of}
use Rattle.names.proofs.Tables.{all_gone, all_declared}
use Rattle.names.proofs.schema.declared_tables.Goals as goal

pub returns : goal.returns
returns c =
    let d = c.loop-part.declaring in
    let ps = c.args.parts.now in
    all_declared c.args.text.now d.text.now (map table_of c.finish.result.tables.items) ps
    (c.finish.ensures ∙ sym (all_gone (declared_so d) ps c.loop-part.part-index c.loop-part-test.false) ∙ c.loop-part.invariant)
