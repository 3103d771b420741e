use Rattle.std.proofs.Common.{◌≡◌, rules, length, Ok, Err, sym, ap, ◌∙◌}
use Rattle.std.proofs.lemmas.Result.{err_from_is_err_and}
use Rattle.cases.specs.Chains.{met_again}
use Rattle.cases.specs.Ranges.{out_of_range}
use Rattle.cases.proofs.Walks.{verdict_size, verdict_words, verdict_chains}
use Rattle.cases.proofs.view.read_case.Goals as goal

pub returns-in_err-file-clause-verdict : goal.returns-in_err-file-clause-verdict
returns-in_err-file-clause-verdict c =
    let p = err_from_is_err_and c.from_residual.result c.from_residual.ensures.1 in
    rw (p.1, p.2) (sym (verdict_size (length c.args.widths.now) c.args.bytes.now _ c.in_err-file.ensures.value))

pub returns-in_err-check_words-clause-verdict : goal.returns-in_err-check_words-clause-verdict
returns-in_err-check_words-clause-verdict c =
    let p = err_from_is_err_and c.from_residual-in_err-check_words.result c.from_residual-in_err-check_words.ensures.1 in
    let tables = length c.args.widths.now in
    let n = c.in_ok-file.file.records in
    let words = ap (λ b. out_of_range b tables n) (sym c.in_ok-file.ensures.same) ∙ sym c.in_err-check_words.ensures in
    rw (p.1, p.2) (sym (verdict_words tables c.args.bytes.now n _ c.in_ok-file.ensures.value words))

pub returns-in_err-check_chains-clause-verdict : goal.returns-in_err-check_chains-clause-verdict
returns-in_err-check_chains-clause-verdict c =
    let p = err_from_is_err_and c.from_residual-in_err-check_chains.result c.from_residual-in_err-check_chains.ensures.1 in
    let tables = length c.args.widths.now in
    let n = c.in_ok-file.file.records in
    let words = ap (λ b. out_of_range b tables n) (sym c.in_ok-file.ensures.same) ∙ sym c.in_ok-check_words.ensures in
    let chains = ap (λ b. met_again b n) (sym c.in_ok-file.ensures.same) ∙ sym c.in_err-check_chains.ensures in
    rw (p.1, p.2) (sym (verdict_chains tables c.args.bytes.now n (Err _) c.in_ok-file.ensures.value words chains))

pub returns-clause-verdict : goal.returns-clause-verdict
returns-clause-verdict c =
    let tables = length c.args.widths.now in
    let n = c.in_ok-file.file.records in
    let words = ap (λ b. out_of_range b tables n) (sym c.in_ok-file.ensures.same) ∙ sym c.in_ok-check_words.ensures in
    let passed : met_again c.in_ok-file.file.bytes.now n ≡ Ok tt = search rules in
    sym (verdict_chains tables c.args.bytes.now n (Ok tt) c.in_ok-file.ensures.value words (ap (λ b. met_again b n) (sym c.in_ok-file.ensures.same) ∙ passed))
