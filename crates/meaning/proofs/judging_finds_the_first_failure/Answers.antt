use Rattle.meaning.proofs.Theorems.{judgement_stands}
use Rattle.meaning.proofs.judging_finds_the_first_failure.Goals as goal

pub returns : goal.returns
returns c = judgement_stands
