use Rattle.meaning.proofs.Theorems.{agreement_stands}
use Rattle.meaning.proofs.conditions_agree_with_runs.Goals as goal

pub returns : goal.returns
returns c = agreement_stands
