use Rattle.meaning.proofs.Theorems.{cursors_stand}
use Rattle.meaning.proofs.cursors_stand_on_rows.Goals as goal

pub returns : goal.returns
returns c = cursors_stand
