use Rattle.std.proofs.Common.{◌≡◌, true, ap, ◌∙◌, rules}
use Rattle.std.proofs.lemmas.Result.{err_from_is_err_and}
use Rattle.lexer.specs.declared.signs.Sign.TheVariants.{Comma}
use Rattle.terms.specs.Pull.{pulled, is_sign}
use Rattle.syntax.specs.States.{rules_of}
use Rattle.syntax.specs.Tables.{rule_in}
use Rattle.syntax.proofs.Rules.{rule_at}
use Rattle.syntax.proofs.tables.next_rule.Goals as goal

pub returns-in_err-rule : goal.returns-in_err-rule
returns-in_err-rule c =
    let text = c.args.rules.at.text.now in
    let s = rules_of c.args.rules in
    let comma = c.in_ok-comma.comma in
    let p = c.in_ok-p.p in
    let first = c.in_ok-comma.ensures in
    let is : is_sign Comma comma.word ≡ true = search rules in
    let next = c.in_ok-p.ensures.0 ∙ ap (λ x. pulled x c.in_ok-comma.behind.at) first.2 ∙ ap (pulled text) first.1 in
    let here = ap (λ x. rule_in x s p) (c.in_ok-p.ensures.2 ∙ first.2) in
    let q = err_from_is_err_and c.from_residual-in_err-rule.result c.from_residual-in_err-rule.ensures.1 in
    rw (q.1, q.2) (c.in_err-rule.ensures ∙ here ∙ rule_at text s comma p first.0 is next)

pub returns : goal.returns
returns c =
    let text = c.args.rules.at.text.now in
    let s = rules_of c.args.rules in
    let comma = c.in_ok-comma.comma in
    let p = c.in_ok-p.p in
    let first = c.in_ok-comma.ensures in
    let is : is_sign Comma comma.word ≡ true = search rules in
    let next = c.in_ok-p.ensures.0 ∙ ap (λ x. pulled x c.in_ok-comma.behind.at) first.2 ∙ ap (pulled text) first.1 in
    let same = c.in_ok-p.ensures.2 ∙ first.2 in
    let one = c.in_ok-rule.ensures in
    (one.0 ∙ ap (λ x. rule_in x s p) same ∙ rule_at text s comma p first.0 is next, one.1 ∙ same, one.2)
