use Rattle.std.proofs.Common.{◌≡◌, [], ◌∷◌, ◌++◌, get_or, take, sym, ap, ◌∙◌, arith}
use Rattle.std.proofs.lemmas.List.{take_more}
use Rattle.store.specs.Meaning.{no_entry}
use Rattle.store_tools.proofs.Tables.{unequal}
use Rattle.store_tools.proofs.compare.same_table.Goals as goal

pub loop-i-preserved : goal.loop-i-preserved
loop-i-preserved g c =
    let ra = (g.A.Store.meaning c.args.a.now).tables c.args.table in
    let rb = (g.B.Store.meaning c.args.b.now).tables c.args.table in
    let e : get_or ((g.A.Store.meaning c.args.a.now).tables c.args.table) c.loop-i.i no_entry ≡ get_or ((g.B.Store.meaning c.args.b.now).tables c.args.table) c.loop-i.i no_entry =
    sym c.entry_of.ensures ∙ (unequal c.entry_of.result c.entry_of-in-loop-i.result c.ne.result c.ne.ensures).0 c.if-ne.false ∙ c.entry_of-in-loop-i.ensures in
    take_more ra c.loop-i.i no_entry (omega (arith, c.rows_of-rows.ensures.count))
    ∙ ap (λ t. t ++ get_or ((g.A.Store.meaning c.args.a.now).tables c.args.table) c.loop-i.i no_entry ∷ []) c.loop-i.invariant
    ∙ ap (λ x. take c.loop-i.i ((g.B.Store.meaning c.args.b.now).tables c.args.table) ++ x ∷ []) e
    ∙ sym (take_more rb c.loop-i.i no_entry (omega (arith, c.rows_of-rows.ensures.count, c.rows_of.ensures.count)))

pub returns-then-ne-clause-decides : goal.returns-then-ne-clause-decides
returns-then-ne-clause-decides g c =
    let other : c.entry_of.result ≡ c.entry_of-in-loop-i.result → ⊥ = (unequal c.entry_of.result c.entry_of-in-loop-i.result c.ne.result c.ne.ensures).1 c.if-ne.true in (
      (λ e. cc),
      (λ e. absurd (other (c.entry_of.ensures ∙ ap (λ r. get_or r c.loop-i.i no_entry) e ∙ sym c.entry_of-in-loop-i.ensures))),
    )
