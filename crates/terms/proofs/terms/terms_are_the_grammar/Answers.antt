use Rattle.terms.proofs.Accepting.{accepts}
use Rattle.terms.proofs.Completing.{completes}
use Rattle.terms.proofs.terms.terms_are_the_grammar.Goals as goal

pub returns : goal.returns
returns c = record { accepts = accepts; completes = completes }
