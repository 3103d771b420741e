use Rattle.std.proofs.Common.{◌≡◌, ℕ, List, take, Some, Ok, Result, ap, ◌∙◌, rules}
use borrow.Author.Tests.{tests}
use denote.Enum.Bare.{sameb}
use Rattle.classes.specs.contracts.Class.{the_type}
use Rattle.classes.specs.declared.Class.TheVariants.{Digit}
use Rattle.faults.specs.declared.Fault.{Fault}
use Rattle.lexer.specs.Numbers.{number_of}
use Rattle.lexer.specs.Runs.{Digits, goes_on, reach_of}
use Rattle.lexer.specs.Tokens.{Lexeme, lexeme, number}
use Rattle.lexer.specs.Lexing.{number_token}
use Rattle.lexer.proofs.Steps.{digits_test}
use Rattle.lexer.proofs.token.Part.number.Goals as goal
use Rattle.lexer.proofs.token.Part.number.Goals.{After-front-digits}

-- The first digits, all of them.
digits : (c : After-front-digits) → c.front-digits.result.bytes.now ≡ take (reach_of Digits c.args.self.bytes.now) c.args.self.bytes.now
unfolding reach_of
digits c =
    let n = c.reach.ensures.value (goes_on Digits) (λ k r h. let is : r ≡ sameb the_type k Digit = search (rules, tests) in is ∙ digits_test k) in
    c.front-digits.ensures.bytes ∙ ap (λ m. take m c.args.self.bytes.now) n

-- A run of digits that is a number, by its bytes and its place.
number_is : (n : ℕ) (b w : List ℕ) (p q : ℕ) → b ≡ w → p ≡ q → Some n ≡ number_of b → ◌≡◌ {A = Result Lexeme Fault} (Ok (lexeme (number n) b p)) (number_token (number_of w) w q)
number_is n b w p q e at told = (λ i. Ok (lexeme (number n) (e i) (at i))) ∙ ap (λ o. number_token o w q) (told ∙ ap number_of e)

pub returns-in-Some : goal.returns-in-Some
returns-in-Some c = let is = digits (goal.at.returns-in-Some c).After-front-digits in search (rules, number_is)

pub returns-in-None : goal.returns-in-None
returns-in-None c =
    let is = digits (goal.at.returns-in-None c).After-front-digits in
    ap (λ o. number_token o (take (reach_of Digits c.args.self.bytes.now) c.args.self.bytes.now) c.args.self.place) (c.in-None.ensures ∙ ap number_of is)
