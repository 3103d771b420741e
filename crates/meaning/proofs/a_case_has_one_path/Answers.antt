use Rattle.meaning.proofs.Theorems.{one_path_stands}
use Rattle.meaning.proofs.a_case_has_one_path.Goals as goal

pub returns : goal.returns
returns c = one_path_stands
