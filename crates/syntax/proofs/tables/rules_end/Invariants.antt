use Rattle.std.proofs.Common.{suc, ◌+◌}
use Rattle.syntax.specs.States.{rules_of, rules_left}
use Rattle.syntax.specs.Tables.{rule_behind}
use Rattle.syntax.proofs.Loops.{Loop}
use Rattle.syntax.proofs.tables.rules_end.Given as goal

abbrev pub invariant-loop-next : goal.invariant-loop-next
invariant-loop-next l =
    Loop (λ r. r.at) rules_of rules_left rule_behind l.fn.rules.at.text.now (suc (l.fn.rules.references + l.fn.rules.checks)) (rules_of l.fn.rules) l.rules

abbrev pub decreases-loop-next : goal.decreases-loop-next
decreases-loop-next l = l.rules.references + l.rules.checks
