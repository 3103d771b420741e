use Rattle.model.proofs.Working.{works_out}
use Rattle.model.proofs.laws.items_work_out.Goals as goal

pub returns : goal.returns
returns c = works_out
