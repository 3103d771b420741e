use Rattle.std.proofs.Common.{rules, ◌∙◌}
use borrow.Author.Tests.{tests}
use Rattle.classes.specs.Bytes.{class_of}
use Rattle.std.proofs.lemmas.Iterator.{YieldsList-from_slice}
use Rattle.std.proofs.lemmas.Iterator.Consumers.{count_from_yields_List, YieldsList-at}
use Rattle.std.proofs.lemmas.Iterator.Search.{YieldsList-from_take_while}
use Rattle.std.proofs.lemmas.List.Folds.{length-prefix_len}
use Rattle.lexer.proofs.runs.reach.Goals as goal

pub returns-clause-value : goal.returns-clause-value
returns-clause-value g c = λ test computes.
    let n = count_from_yields_List c.take_while.result c.count.result c.count.ensures.ran (YieldsList-from_take_while _ (λ b. test (class_of b)) (YieldsList-at c.take_while.ensures.source (YieldsList-from_slice c.args.bytes.now cc)) c.take_while.ensures.closure c.take_while.ensures.done (λ x b q k. (search (rules, tests), search (rules, tests, computes)))) in
    n ∙ length-prefix_len (λ b. test (class_of b)) c.args.bytes.now
