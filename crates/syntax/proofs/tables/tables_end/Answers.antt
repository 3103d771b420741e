use Rattle.std.proofs.Common.{Ok, refl, ap, arith}
use Rattle.std.proofs.lemmas.Result.{err_from_is_err_and}
use Rattle.terms.specs.Pull.{and_then}
use Rattle.syntax.specs.States.{schema_of, tables_left}
use Rattle.syntax.specs.Tables.{table_behind}
use Rattle.syntax.proofs.Repeating.{going_start}
use Rattle.syntax.proofs.Loops.{loop_more, loop_none, loop_refused}
use Rattle.syntax.proofs.tables.tables_end.Goals as goal

pub loop-next-init : goal.loop-next-init
loop-next-init c =
    let text = c.args.at.text.now in
    record { same = refl; going = going_start (table_behind text) (tables_left text) 9 _ (omega arith) }

pub loop-next-preserved : goal.loop-next-preserved
loop-next-preserved c =
    loop_more (λ r. r.rules.at) schema_of tables_left table_behind _ _ _ c.loop-next.schema c.in-Some.next _ c.loop-next.invariant c.in_ok-next.ensures c.in-Some.is

pub returns-in_err-next : goal.returns-in_err-next
returns-in_err-next c =
    let p = err_from_is_err_and c.from_residual.result c.from_residual.ensures.1 in
    rw (p.1, p.2) (ap (λ r. and_then r (λ s. Ok s.end)) (loop_refused (λ r. r.rules.at) schema_of tables_left table_behind _ _ _ c.loop-next.schema _ c.loop-next.invariant c.in_err-next.ensures))

pub returns : goal.returns
returns c =
    let done = loop_none (λ r. r.rules.at) schema_of tables_left table_behind _ _ _ c.loop-next.schema _ c.loop-next.invariant c.in_ok-next.ensures c.in_default.is in
    (ap (λ r. and_then r (λ s. Ok s.end)) done, c.loop-next.invariant.same)
