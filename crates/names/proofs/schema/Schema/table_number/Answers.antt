use Rattle.std.proofs.Common.{ap, sym, ◌∙◌}
use Rattle.names.specs.Spelled.{same_name}
use Rattle.names.specs.Schema.{Table, table_of, counted}
use Rattle.names.proofs.Tables.{position_map}
use Rattle.names.proofs.schema.Schema.table_number.Goals as goal

pub returns-in_err-place : goal.returns-in_err-place
returns-in_err-place c =
    let s = c.args.self.now in
    let alike = λ (t : Table). same_name s.text.now t.title c.args.name in
    let kept = position_map table_of alike s.tables.now in
    c.from_residual.ensures ∙ ap counted (c.in_err-place.ensures.value ∙ sym kept)

pub returns : goal.returns
returns c =
    let s = c.args.self.now in
    let alike = λ (t : Table). same_name s.text.now t.title c.args.name in
    let kept = position_map table_of alike s.tables.now in
    ap counted (c.in_ok-place.ensures.value ∙ sym kept)
