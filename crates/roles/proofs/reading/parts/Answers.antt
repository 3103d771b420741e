use Rattle.roles.specs.Roles.{parts_upto}
use Rattle.roles.proofs.TextsTold.{answer_tells}
use Rattle.roles.proofs.reading.parts.Goals as goal

pub returns : goal.returns
unfolding parts_upto
returns c =
    let value = c.read_parts.ensures in
    record { value = value; told = answer_tells c.args.text.now c.args.upto c.read_parts.result value }
