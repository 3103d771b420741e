use Rattle.std.proofs.Common.{suc, ◌+◌, ◌*◌, ◌≤◌}
use Rattle.syntax.specs.States.{place_of, room_of}
use Rattle.syntax.specs.Statements.{holding, statement_by}
use Rattle.syntax.proofs.Loops.{Loop}
use Rattle.syntax.proofs.statements.+statements.Given as goal

abbrev pub decreases-read_holder : goal.decreases-read_holder
decreases-read_holder l = 5 * l.depth

abbrev pub decreases-next_statement : goal.decreases-next_statement
decreases-next_statement l = 5 * l.depth + 1

abbrev pub decreases-read_block : goal.decreases-read_block
decreases-read_block l = 5 * l.depth + 2

abbrev pub decreases-read_part : goal.decreases-read_part
decreases-read_part l = 5 * l.depth + 3

abbrev pub decreases-read_branch : goal.decreases-read_branch
decreases-read_branch l = 5 * l.depth + 4

abbrev pub decreases-read_loop : goal.decreases-read_loop
decreases-read_loop l = 5 * l.depth + 4

abbrev pub invariant-read_block-loop-next : goal.invariant-read_block-loop-next
invariant-read_block-loop-next l =
    (l.state.room ≤ l.fn.state.room)
    × Loop (λ r. r.at) place_of room_of (λ text s. statement_by text (holding text l.depth) s) l.fn.state.at.text.now (suc l.fn.state.room) (place_of l.fn.state) l.state

abbrev pub decreases-read_block-loop-next : goal.decreases-read_block-loop-next
decreases-read_block-loop-next l = l.state.room
