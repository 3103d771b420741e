use Rattle.meaning.proofs.Worked.{further}
use Rattle.meaning.proofs.further_cases_stand.Goals as goal

pub returns : goal.returns
returns c = further
