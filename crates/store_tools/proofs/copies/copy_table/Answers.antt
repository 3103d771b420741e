use Rattle.std.proofs.Common.{◌≡◌, get_or, ap, ◌∙◌, arith, w32, SFits, to_z, of_z, rules}
use Rattle.std.proofs.lemmas.Int.{to_z-of_z}
use Rattle.store.specs.Meaning.{no_entry}
use Rattle.store_tools.proofs.Copying.{copied_more}
use Rattle.store_tools.proofs.Tables.{table_of_row}
use Rattle.store_tools.proofs.copies.copy_table.Goals as goal

pub loop-position-preserved : goal.loop-position-preserved
loop-position-preserved g c =
    let f : SFits w32 c.entry_of-entry.result.key = search rules in
    let e : record { key = to_z w32 (of_z w32 c.entry_of-entry.result.key); row = c.entry_of-entry.result.row } ≡ get_or ((g.A.Store.meaning c.args.from.now).tables c.args.table) c.loop-position.position no_entry =
    ap (λ k. record { key = k; row = c.entry_of-entry.result.row }) (to_z-of_z w32 c.entry_of-entry.result.key f) ∙ c.entry_of-entry.ensures in
    let law = c.rows_of-position-end.ensures.lawful in
    c.put.ensures.after ∙ copied_more (g.B.Store.meaning c.args.to.now) (g.B.Store.meaning c.loop-position.to) c.args.table c.loop-position.position ((g.A.Store.meaning c.args.from.now).tables c.args.table)
    (record { key = to_z w32 (of_z w32 c.entry_of-entry.result.key); row = c.entry_of-entry.result.row }) (table_of_row (g.A.Store.meaning c.args.from.now) law c.args.table c.loop-position.position (omega (arith, c.rows_of-position-end.ensures.count))) (law.ascends c.args.table) (omega (arith, c.rows_of-position-end.ensures.count)) (omega (arith, law.within c.args.table, c.requires.limit)) c.loop-position.invariant e
