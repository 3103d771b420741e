use Rattle.std.proofs.Common.{◌≡◌, suc, ap, ◌∙◌, arith}
use Rattle.names.specs.Schema.{decl_of, table_of, table_numbered}
use Rattle.names.proofs.Tables.{read_at}
use Rattle.names.proofs.schema.Schema.table.Goals as goal

pub returns : goal.returns
returns c =
    let i = c.in_ok-checked_sub.field-0 in
    let l = c.get.ensures.lookup in
    let next : suc i ≡ c.args.table = omega (arith, c.in_ok-checked_sub.ensures) in
    read_at table_of c.args.self.now.tables.now i c.get.result l.0 l.1
    ∙ ap (table_numbered (decl_of c.args.self.now)) next
