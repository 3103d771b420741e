use Rattle.std.proofs.Common.{rules}
use borrow.Author.Tests.{tests}
use Rattle.std.proofs.lemmas.Iterator.{YieldsList-from_slice, IsFirst-from_position}
use Rattle.circles.proofs.Steps.{IsWaiting, IsDone, waiting_yes, waiting_no, first_waits}
use Rattle.circles.proofs.waiting.Goals as goal

pub returns : goal.returns
returns c =
    let marks = c.args.marks.now in
    let first = IsFirst-from_position _ _ c.position.result IsWaiting IsDone c.position.ensures.ran (YieldsList-from_slice marks cc) (λ x q k. waiting_yes x.now (search (rules, tests))) (λ x q k. (search (rules, tests), waiting_no x.now (search (rules, tests)))) in
    first_waits marks c.position.result c.told-marks first
