use Rattle.std.proofs.Common.{◌≡◌, true, false, sym, arith, rules}
use borrow.Author.Tests.{tests}
use Rattle.std.proofs.lemmas.Iterator.{first_from_Range}
use Rattle.cases.specs.Ranges.{fits, out_of_range}
use Rattle.cases.proofs.Walks.{out_told}
use Rattle.cases.proofs.file.File.check_words.Goals as goal

pub overflow_mul-result : goal.overflow_mul-result
overflow_mul-result c =
    let ok = fits c.args.self.now.bytes.now c.args.tables in
    let first = first_from_Range _ _ _ c.find.result (λ k. ok k ≡ false) (λ k. ok k ≡ true) c.find.ensures.ran (λ x q k. search (rules, tests)) (λ x q k. (search (rules, tests), search (rules, tests))) in
    let told = rw c.in-Some.is at (out_told ok c.args.self.now.records _ c.find.result first (omega arith)) in
    omega (arith, told.0, c.type_inv.self)

pub returns-in-Some : goal.returns-in-Some
unfolding out_of_range
returns-in-Some c =
    let ok = fits c.args.self.now.bytes.now c.args.tables in
    let first = first_from_Range _ _ _ c.find.result (λ k. ok k ≡ false) (λ k. ok k ≡ true) c.find.ensures.ran (λ x q k. search (rules, tests)) (λ x q k. (search (rules, tests), search (rules, tests))) in
    let told = rw c.in-Some.is at (out_told ok c.args.self.now.records _ c.find.result first (omega arith)) in
    sym told.1

pub returns-in-None : goal.returns-in-None
unfolding out_of_range
returns-in-None c =
    let ok = fits c.args.self.now.bytes.now c.args.tables in
    let first = first_from_Range _ _ _ c.find.result (λ k. ok k ≡ false) (λ k. ok k ≡ true) c.find.ensures.ran (λ x q k. search (rules, tests)) (λ x q k. (search (rules, tests), search (rules, tests))) in
    sym (rw c.in-None.is at (out_told ok c.args.self.now.records _ c.find.result first (omega arith)))
