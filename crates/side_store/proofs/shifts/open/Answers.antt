use Rattle.std.proofs.Common.{ap, set, ◌∙◌}
use Rattle.side_store.proofs.Moves.{opened_copied}
use Rattle.side_store.proofs.shifts.open.Goals as goal

pub returns : goal.returns
returns g c = ap (λ s. set s c.args.from c.args.item) c.copy_within.ensures.after ∙ opened_copied c.args.items.now c.args.from c.args.to c.args.item c.requires.order c.requires.room
