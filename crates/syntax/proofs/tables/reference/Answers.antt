use Rattle.std.proofs.Common.{arith}
use Rattle.syntax.proofs.Rooms.{room_more}
use Rattle.syntax.proofs.tables.reference.Goals as goal

pub returns-in_err-at-2-clause-value : goal.returns-in_err-at-2-clause-value
returns-in_err-at-2-clause-value c = grind (arith, room_more)
