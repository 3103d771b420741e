use Rattle.std.proofs.Common.{◌≡◌, ◌+◌, [], ◌∷◌, ◌++◌, take, sym, ap, ◌∙◌, subst, arith}
use Rattle.std.proofs.lemmas.List.{take_more}
use Rattle.std.proofs.lemmas.Fn.{FoldsTo-push}
use Rattle.store.specs.Meaning.{no_entry}
use Rattle.store.proofs.Calls.{count_from}
use Rattle.store_tools.specs.Visits.{Visited}
use Rattle.store_tools.proofs.visits.visit_rows.Goals as goal

pub loop-position-preserved : goal.loop-position-preserved
loop-position-preserved g c =
    let rows = (g.S.Store.meaning c.args.store.now).tables c.args.table in
    let n = count_from (g.S.Store.meaning c.args.store.now) c.args.table c.in_ok-rows.rows c.in_ok-rows.ensures.answer in
    let e : take c.loop-position.position ((g.S.Store.meaning c.args.store.now).tables c.args.table) ++ c.entry_of.result ∷ [] ≡ take (c.loop-position.position + 1) ((g.S.Store.meaning c.args.store.now).tables c.args.table) =
    ap (λ x. take c.loop-position.position ((g.S.Store.meaning c.args.store.now).tables c.args.table) ++ x ∷ []) c.entry_of.ensures ∙ sym (take_more rows c.loop-position.position no_entry (omega (arith, n.1))) in
    subst (λ r. Visited g.V.Visitor.takes c.args.visitor.now r c.visit.new.self) e
    (FoldsTo-push g.V.Visitor.takes c.args.visitor.now (take c.loop-position.position rows) c.loop-position.visitor c.entry_of.result c.visit.new.self c.loop-position.invariant c.visit.ensures)
