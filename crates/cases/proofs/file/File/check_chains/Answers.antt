use Rattle.std.proofs.Common.{◌≡◌, ◌+◌, ◌-◌, cond, eqb, [], ◌++◌, sym, ap, ◌∙◌, arith}
use Rattle.std.proofs.lemmas.Result.{err_from_is_err_and}
use Rattle.std.proofs.lemmas.Bool.{ne_eqb, eq-eqb, cond-true, cond-false}
use Rattle.cases.specs.Chains.{met, trails, trail_from, met_again, passed}
use Rattle.cases.proofs.Walks.{met_on, met_stop, trails_more}
use Rattle.cases.proofs.file.File.check_chains.Goals as goal
use Rattle.cases.proofs.file.File.check_chains.Goals.{then-head-ne-LISTS+in_ok-follow, else-head-ne-LISTS}

pub returns-in_err-follow : goal.returns-in_err-follow
unfolding met_again
returns-in_err-follow c =
    let b = c.args.self.now.bytes.now in
    let n = c.args.self.now.records in
    let w = c.loop-head.head in
    let p = err_from_is_err_and c.from_residual.result c.from_residual.ensures.1 in
    let here : cond (eqb w 10) [] (trail_from b n w) ≡ trail_from b n w = cond-false _ _ _ (ne_eqb w 10 c.if-head-ne-LISTS.true) in
    let stop = met_stop (trail_from b n w) (trails b n (w + 1) (19 - w - 1)) c.loop-head.noted c.in_err-follow.field-0.0 c.in_err-follow.ensures in
    let whole = c.loop-head.invariant ∙ ap (met c.loop-head.noted) (trails_more b n w (19 - w) (omega arith) ∙ ap (λ l. l ++ trails b n (w + 1) (19 - w - 1)) here) ∙ stop in
    p.1 ∙ rw p.2 (sym (ap passed whole))

pub loop-head-preserved : goal.loop-head-preserved
loop-head-preserved c =
    let b = c.args.self.now.bytes.now in
    let n = c.args.self.now.records in
    let w = c.loop-head.head in
    let less : 19 - w - 1 ≡ 19 - (w + 1) = omega arith in
    let more = trails_more b n w (19 - w) (omega arith) in
    elim c.if-head-ne-LISTS.branch [
      | then-head-ne-LISTS+in_ok-follow v ↦
          let here : cond (eqb w 10) [] (trail_from b n w) ≡ trail_from b n w = cond-false _ _ _ (ne_eqb w 10 v.if-head-ne-LISTS.true) in
          let on = met_on (trail_from b n w) (trails b n (w + 1) (19 - w - 1)) c.loop-head.noted v.follow.new.noted v.in_ok-follow.ensures in
          c.loop-head.invariant ∙ ap (met c.loop-head.noted) (more ∙ ap (λ l. l ++ trails b n (w + 1) (19 - w - 1)) here) ∙ on ∙ ap (λ k. met v.follow.new.noted (trails b n (w + 1) k)) less ∙ ap (λ m. met m (trails b n (w + 1) (19 - (w + 1)))) (sym v.noted-is)
      | else-head-ne-LISTS v ↦
          let here : cond (eqb w 10) [] (trail_from b n w) ≡ [] = cond-true _ _ _ (eq-eqb w 10 v.if-head-ne-LISTS.false) in
          c.loop-head.invariant ∙ ap (met c.loop-head.noted) (more ∙ ap (λ l. l ++ trails b n (w + 1) (19 - w - 1)) here) ∙ ap (λ k. met c.loop-head.noted (trails b n (w + 1) k)) less ∙ ap (λ m. met m (trails b n (w + 1) (19 - (w + 1)))) (sym v.noted-is)
    ]

pub returns : goal.returns
unfolding met_again
returns c =
    let none : 19 - c.loop-head.head ≡ 0 = omega arith in
    sym (ap passed (c.loop-head.invariant ∙ ap (λ k. met c.loop-head.noted (trails c.args.self.now.bytes.now c.args.self.now.records c.loop-head.head k)) none))
