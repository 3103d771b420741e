use Rattle.model.proofs.Reading.{reads_back}
use Rattle.model.proofs.laws.written_models_read_back.Goals as goal

pub returns : goal.returns
returns c = reads_back
