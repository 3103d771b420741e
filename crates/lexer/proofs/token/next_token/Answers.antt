use Rattle.std.proofs.Common.{◌≡◌, ◌+◌, ◌-◌, length, take, drop, Some, Ok, sym, ap, ◌∙◌, arith, rules}
use borrow.Author.Tests.{tests}
use denote.Enum.Bare.{sameb}
use Rattle.std.proofs.lemmas.Result.{err_from_is_err_and}
use Rattle.classes.specs.contracts.Class.{the_type}
use Rattle.classes.specs.declared.Class.TheVariants.{Blank}
use Rattle.lexer.specs.Runs.{Blanks, goes_on, reach_of}
use Rattle.lexer.specs.Tokens.{lexeme_of, after}
use Rattle.lexer.specs.Lexing.{found, next_token, with_end}
use Rattle.lexer.proofs.Found.{front_found}
use Rattle.lexer.proofs.Next.{next_none, next_ended, next_front}
use Rattle.lexer.proofs.Laws.{next_advances}
use Rattle.lexer.proofs.Steps.{blanks_test}
use Rattle.lexer.proofs.token.next_token.Goals as goal
use Rattle.lexer.proofs.token.next_token.Goals.{After-reach}

-- The blanks that lie before the token.
skipped : (c : After-reach) → c.reach.result ≡ reach_of Blanks (take (length c.args.text.now - c.args.at) (drop c.args.at c.args.text.now))
unfolding reach_of
skipped c = c.reach.ensures.value (goes_on Blanks) (λ k r h. let is : r ≡ sameb the_type k Blank = search (rules, tests) in is ∙ blanks_test k)

pub returns-then-at-text : goal.returns-then-at-text
returns-then-at-text c = record { value = ap with_end (sym (next_none _ _ c.if-at-text.true)); advances = tt }

pub returns-then-place-text : goal.returns-then-place-text
returns-then-place-text c = record { value = ap with_end (sym (next_ended _ _ _ (skipped (goal.at.returns-then-place-text c).After-reach) c.if-place-text.true)); advances = tt }

pub returns-in_err-token : goal.returns-in_err-token
returns-in_err-token c =
    let p = err_from_is_err_and c.from_residual.result c.from_residual.ensures.1 in
    rw (p.1, p.2) (record {
      value = ap with_end (ap found c.in_err-token.ensures ∙ sym (next_front _ _ _ (skipped (goal.at.returns-in_err-token c).After-reach) c.if-place-text.false));
      advances = tt;
    })

pub returns : goal.returns
returns c =
    let token = lexeme_of c.in_ok-token.token in
    let next : next_token c.args.text.now c.args.at ≡ Ok (Some token) = next_front _ _ _ (skipped (goal.at.returns c).After-reach) c.if-place-text.false ∙ ap found (sym c.in_ok-token.ensures) in
    let placed = (front_found _ _ token (sym c.in_ok-token.ensures)).placed in
    let size = ap length c.part.ensures.bytes in
    let ends : c.args.at + c.reach.result + length c.part.result.bytes.now ≡ after token = omega arith in
    record { value = ap (λ e. Ok (Some (token, e))) ends ∙ ap with_end (sym next); advances = next_advances _ _ _ next }
