use Rattle.std.proofs.Common.{◌≡◌, ◌+◌, map, length, get_or, sym, ap, ◌∙◌, arith, below_more}
use Rattle.std.proofs.lemmas.List.{get_or-set_same, get_or-set_other, map-set, length-map, get_or_past}
use Rattle.chain.specs.Lists.{up_to}
use Rattle.chain.proofs.Fresh.{length_up_to, get_d_up_to}
use Rattle.chain.proofs.cells.link_all.Goals as goal
use Rattle.chain.proofs.cells.link_all.Goals.{then-i-n, else-i-n}

pub loop-i-preserved : goal.loop-i-preserved
loop-i-preserved g c =
    let next : c.if-i-n.cell ≡ get_or (up_to (length c.args.cells.now)) (c.loop-i.i + 1) 0 = elim c.if-i-n.branch [
      | then-i-n w ↦ (let u = get_d_up_to (length c.args.cells.now) (c.loop-i.i + 1) (omega (arith, w.if-i-n.true)) in omega (arith, w.cell-is))
      | else-i-n w ↦ (w.cell-is ∙ sym (get_or_past (up_to (length c.args.cells.now)) (c.loop-i.i + 1) 0 (omega (arith, length_up_to (length c.args.cells.now), w.if-i-n.false))))
    ] in
    below_more _ _
    (λ k h. ap (λ t. get_or t k 0) (map-set (λ x. x.next) c.loop-i.cells c.loop-i.i _) ∙ get_or-set_other (map (λ x. x.next) c.loop-i.cells) c.loop-i.i k _ 0 (omega arith) ∙ c.loop-i.invariant k h)
    (ap (λ t. get_or t c.loop-i.i 0) (map-set (λ x. x.next) c.loop-i.cells c.loop-i.i _) ∙ get_or-set_same (map (λ x. x.next) c.loop-i.cells) c.loop-i.i _ 0 (omega (arith, length-map c.loop-i.cells (λ x. x.next), c.loop-i.auto.cells)) ∙ next)
