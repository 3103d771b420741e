use Rattle.std.proofs.Common.{length, sym, ap, ◌∙◌, arith}
use Rattle.std.proofs.lemmas.Result.{err_from_is_err_and}
use Rattle.terms.specs.Pull.{and_then}
use Rattle.syntax.specs.Clauses.{element_behind}
use Rattle.syntax.specs.Repeats.{repeated}
use Rattle.syntax.specs.States.{left_of}
use Rattle.syntax.proofs.Elements.{element_onward}
use Rattle.syntax.proofs.Repeating.{going_start}
use Rattle.syntax.proofs.Loops.{loop_more, loop_none, loop_refused}
use Rattle.syntax.proofs.clauses.list_end.Goals as goal

pub loop-next-init : goal.loop-next-init
loop-next-init c =
    let text = c.args.at.text.now in
    let first = c.in_ok-end.ensures in
    let on = element_onward text c.args.element c.args.at.at c.in_ok-end.end.at (sym first.0) in
    let some = on.some in
    let within = on.within in
    record { same = first.1; going = going_start (element_behind text c.args.element) (left_of text) (length text) c.in_ok-end.end.at (omega arith) }

pub loop-next-preserved : goal.loop-next-preserved
loop-next-preserved c =
    loop_more (λ r. r) (λ r. r.at) left_of (λ text from. element_behind text c.args.element from) _ _ _ c.loop-next.end c.in-Some.next _ c.loop-next.invariant c.in_ok-next.ensures c.in-Some.is

pub returns-in_err-next : goal.returns-in_err-next
returns-in_err-next c =
    let text = c.args.at.text.now in
    let p = err_from_is_err_and c.from_residual-in_err-next.result c.from_residual-in_err-next.ensures.1 in
    rw (p.1, p.2) (
    loop_refused (λ r. r) (λ r. r.at) left_of (λ text from. element_behind text c.args.element from) _ _ _ c.loop-next.end _ c.loop-next.invariant c.in_err-next.ensures
    ∙ ap (λ r. and_then r (repeated (element_behind text c.args.element) (length text))) c.in_ok-end.ensures.0)

pub returns : goal.returns
returns c =
    let text = c.args.at.text.now in
    let done = loop_none (λ r. r) (λ r. r.at) left_of (λ text from. element_behind text c.args.element from) _ _ _ c.loop-next.end _ c.loop-next.invariant c.in_ok-next.ensures c.in_default.is in
    (done ∙ ap (λ r. and_then r (repeated (element_behind text c.args.element) (length text))) c.in_ok-end.ensures.0, c.loop-next.invariant.same)
