use Rattle.std.proofs.Common.{length, Ok, sym, ap, ◌∙◌}
use Rattle.std.proofs.lemmas.Result.{err_from_is_err_and}
use Rattle.lexer.specs.Tokens.{lexeme_of, option_read}
use Rattle.terms.specs.Pull.{word_of, and_then, or_refused, pulled}
use Rattle.terms.proofs.pull.pull.Goals as goal

pub returns-in_err-token : goal.returns-in_err-token
unfolding pulled
returns-in_err-token c =
    let p = err_from_is_err_and c.from_residual.result c.from_residual.ensures.1 in
    rw (p.1, p.2) (ap (λ r. and_then r (or_refused (length c.args.text.now))) c.in_err-token.ensures.value)

pub returns-in-Some : goal.returns-in-Some
unfolding pulled
returns-in-Some c =
    let next = ap (λ o. Ok (option_read o)) (sym c.in-Some.is) ∙ c.in_ok-token.ensures.value in
    ap (λ w. Ok (record { word = w; place = c.part-place.result.place; end = c.in-Some.end })) c.from-word.ensures
    ∙ ap (λ p. Ok (record { word = word_of (lexeme_of c.in-Some.token).kind; place = p; end = c.in-Some.end })) c.part-place.ensures.place
    ∙ ap (λ r. and_then r (or_refused (length c.args.text.now))) next

pub returns-in-None : goal.returns-in-None
unfolding pulled
returns-in-None c =
    let next = ap (λ o. Ok (option_read o)) (sym c.in-None.is) ∙ c.in_ok-token.ensures.value in
    ap (λ r. and_then r (or_refused (length c.args.text.now))) next
