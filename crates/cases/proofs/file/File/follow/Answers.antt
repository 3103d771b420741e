use Rattle.std.proofs.Common.{ℕ, ap, ◌∙◌, subst}
use Rattle.cases.specs.Chains.{met}
use Rattle.cases.specs.Trails.{trail_left}
use Rattle.cases.proofs.Walks.{IsTrail, trail_step, met_more}
use Rattle.cases.proofs.file.File.follow.Goals as goal

pub loop-word-preserved : goal.loop-word-preserved
loop-word-preserved c =
    let self = c.args.self.now in
    let link : ℕ × ℕ = (c.in-Some.word, c.in-Some.record) in
    let on = trail_left c.next.new.self in
    let step = trail_step self.bytes.now self.records link on self.few (subst (IsTrail self.bytes.now self.records) c.in-Some.ensures.steps c.loop-word.invariant.2) in
    (tt, tt, step.2, c.loop-word.invariant.3 ∙ ap (met c.loop-word.noted) c.in-Some.ensures.steps ∙ met_more c.loop-word.noted c.in-Some.word c.in-Some.record on c.if-noted-record.false)
