use Rattle.syntax.specs.States.{place_of, room_of}
use Rattle.syntax.specs.Tables.{attribute_behind}
use Rattle.syntax.proofs.Loops.{Loop}
use Rattle.syntax.proofs.tables.attributes_end.Given as goal

abbrev pub invariant-loop-next : goal.invariant-loop-next
invariant-loop-next l =
    Loop (λ r. r.at) place_of room_of attribute_behind l.initial.state.at.text.now 8 (l.initial.state.at.at, 7) l.state

abbrev pub decreases-loop-next : goal.decreases-loop-next
decreases-loop-next l = l.state.room
