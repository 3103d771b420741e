use Rattle.meaning.proofs.Theorems.{range_stands}
use Rattle.meaning.proofs.values_stay_in_range.Goals as goal

pub returns : goal.returns
returns c = range_stands
