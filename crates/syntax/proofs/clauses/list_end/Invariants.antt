use Rattle.std.proofs.Common.{◌-◌, length}
use Rattle.syntax.specs.Clauses.{element_behind}
use Rattle.syntax.specs.States.{left_of}
use Rattle.syntax.proofs.Loops.{Loop}
use Rattle.syntax.proofs.clauses.list_end.Given as goal

abbrev pub invariant-loop-next : goal.invariant-loop-next
invariant-loop-next l =
    Loop (λ r. r) (λ r. r.at) left_of (λ text from. element_behind text l.element from) l.at.text.now (length l.at.text.now) l.initial.end.at l.end

abbrev pub decreases-loop-next : goal.decreases-loop-next
decreases-loop-next l = length l.end.text.now - l.end.at
