use Rattle.std.proofs.Common.{vec_items, sym, subst, arith}
use Rattle.std.proofs.lemmas.Bool.{lt-ltb, le-ltb}
use Rattle.roles.proofs.Steps.{Left, pulled_onward, left_none, left_more, left_late, left_ended}
use Rattle.roles.proofs.reading.tokens_upto.Goals as goal

pub loop-p-init : goal.loop-p-init
loop-p-init c = subst (λ ps. Left c.args.text.now c.args.upto 0 ps) (sym c.new-found.ensures.items) (left_none c.args.text.now c.args.upto)

pub returns-then-p-upto : goal.returns-then-p-upto
returns-then-p-upto c = left_late c.args.text.now c.args.upto c.loop-p.at _ c.in-Ok.p c.loop-p.invariant (sym c.in-Ok.ensures) (le-ltb c.in-Ok.p.place c.args.upto c.if-p-upto.true)

pub loop-p-smaller : goal.loop-p-smaller
loop-p-smaller c = let o = pulled_onward c.args.text.now c.loop-p.at c.in-Ok.p (sym c.in-Ok.ensures) in omega (arith, o.0, o.1)

pub loop-p-preserved : goal.loop-p-preserved
loop-p-preserved c =
    subst (λ ps. Left c.args.text.now c.args.upto c.in-Ok.p.end ps) (sym c.in_ok-push.ensures.items)
    (left_more c.args.text.now c.args.upto c.loop-p.at (vec_items c.loop-p.found) c.in-Ok.p c.loop-p.invariant (sym c.in-Ok.ensures) (lt-ltb c.in-Ok.p.place c.args.upto (omega arith)))

pub returns : goal.returns
returns c = left_ended c.args.text.now c.args.upto c.loop-p.at (vec_items c.loop-p.found) c.in_default.field-0 c.loop-p.invariant (sym c.in_default.ensures)
