use Rattle.std.proofs.Common.{refl, arith}
use Rattle.std.proofs.lemmas.Result.{err_from_is_err_and}
use Rattle.syntax.specs.States.{rules_of, rules_left}
use Rattle.syntax.specs.Tables.{rule_behind}
use Rattle.syntax.proofs.Repeating.{going_start}
use Rattle.syntax.proofs.Loops.{loop_more, loop_none, loop_refused}
use Rattle.syntax.proofs.tables.rules_end.Goals as goal

pub loop-next-init : goal.loop-next-init
loop-next-init c =
    let text = c.args.rules.at.text.now in
    record { same = refl; going = going_start (rule_behind text) (rules_left text) _ (rules_of c.args.rules) (omega arith) }

pub loop-next-preserved : goal.loop-next-preserved
loop-next-preserved c =
    loop_more (λ r. r.at) rules_of rules_left rule_behind _ _ _ c.loop-next.rules c.in-Some.next _ c.loop-next.invariant c.in_ok-next.ensures c.in-Some.is

pub returns-in_err-next : goal.returns-in_err-next
returns-in_err-next c =
    let p = err_from_is_err_and c.from_residual.result c.from_residual.ensures.1 in
    rw (p.1, p.2) (loop_refused (λ r. r.at) rules_of rules_left rule_behind _ _ _ c.loop-next.rules _ c.loop-next.invariant c.in_err-next.ensures)

pub returns : goal.returns
returns c =
    (loop_none (λ r. r.at) rules_of rules_left rule_behind _ _ _ c.loop-next.rules _ c.loop-next.invariant c.in_ok-next.ensures c.in_default.is, c.loop-next.invariant.same)
