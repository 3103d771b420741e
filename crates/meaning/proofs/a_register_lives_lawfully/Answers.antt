use Rattle.meaning.proofs.Lives.{life}
use Rattle.meaning.proofs.a_register_lives_lawfully.Goals as goal

pub returns : goal.returns
returns c = life
