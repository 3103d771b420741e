use Rattle.meaning.proofs.Theorems.{following_stands}
use Rattle.meaning.proofs.following_is_right.Goals as goal

pub returns : goal.returns
returns c = following_stands
