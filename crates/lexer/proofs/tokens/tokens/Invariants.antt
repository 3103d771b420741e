use Rattle.std.proofs.Common.{◌-◌, length}
use Rattle.lexer.specs.Tokens.{lexemes}
use Rattle.lexer.specs.Layout.{Cut}
use Rattle.lexer.proofs.tokens.tokens.Given as goal

abbrev pub invariant-loop-found : goal.invariant-loop-found
invariant-loop-found l = Cut l.text 0 (lexemes l.found) l.at

abbrev pub decreases-loop-found : goal.decreases-loop-found
decreases-loop-found l = length l.text - l.at
