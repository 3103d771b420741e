use Rattle.meaning.proofs.Worked.{worked}
use Rattle.meaning.proofs.worked_cases_stand.Goals as goal

pub returns : goal.returns
returns c = worked
