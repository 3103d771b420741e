use Rattle.std.proofs.Common.{◌≡◌, take, Some, None, Option, ap, ◌∙◌, rules}
use borrow.Author.Tests.{tests}
use Rattle.lexer.specs.declared.keywords.Keyword.{Keyword}
use Rattle.lexer.specs.Keywords.{keyword_of}
use Rattle.lexer.specs.Runs.{Word, goes_on, reach_of}
use Rattle.lexer.specs.Tokens.{lexeme}
use Rattle.lexer.specs.Lexing.{word_kind, word_token}
use Rattle.lexer.proofs.token.Part.word.Goals as goal
use Rattle.lexer.proofs.token.Part.word.Goals.{After-front-word}

-- A word by its bytes and its place, where it is known which keyword it is, if any.
word_is : (c : After-front-word) (o : Option Keyword) → o ≡ keyword_of c.front-word.result.bytes.now → lexeme (word_kind o) c.front-word.result.bytes.now c.front-word.result.place ≡ word_token (take (reach_of Word c.args.self.bytes.now) c.args.self.bytes.now) c.args.self.place
unfolding reach_of
word_is c o told =
    let n = c.reach.ensures.value (goes_on Word) (λ k r h. search (rules, tests)) in
    let is = c.front-word.ensures.bytes ∙ ap (λ m. take m c.args.self.bytes.now) n in
    ap (λ k. lexeme (word_kind k) c.front-word.result.bytes.now c.front-word.result.place) told ∙ (λ i. word_token (is i) (c.front-word.ensures.place i))

pub returns-in-Some : goal.returns-in-Some
returns-in-Some c = word_is (goal.at.returns-in-Some c).After-front-word (Some c.in-Some.keyword) c.in-Some.ensures

pub returns-in-None : goal.returns-in-None
returns-in-None c = word_is (goal.at.returns-in-None c).After-front-word None c.in-None.ensures
