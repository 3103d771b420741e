use Rattle.std.proofs.Common.{◌≡◌, ℕ, ◌+◌, ◌<◌, ◌≤◌, List, Option, Some, None, MatchOption, arith, rules}
use borrow.Author.Tests.{tests}
use Rattle.std.specs.Range.{range_inclusive_left}
use Rattle.std.proofs.lemmas.Iterator.{first_from_find}
use Rattle.circles.specs.declared.Link.{Link}
use Rattle.circles.specs.Circles.{OnCircle, Answers}
use Rattle.circles.proofs.Numbers.{gap, counted, first_number, reaches}
use Rattle.circles.proofs.Named.{circle_table, first_named, none_named, named_on}
use Rattle.circles.proofs.first_on_circle.Goals as goal

-- No number below 1 and none above the last table is on a circle.
told : (tables : ℕ) (links : List Link) (a n : ℕ) (r : Option ℕ) → a ≡ 1 → ((t : ℕ) → t ≤ tables → t ≤ 8 → t < a + n) → MatchOption r ((k : ℕ) → a ≤ k → k < a + n → OnCircle tables links k → ⊥) (λ x. OnCircle tables links x × ((k : ℕ) → a ≤ k → k < x → OnCircle tables links k → ⊥)) → Answers tables links r
told tables links a n None one most all = λ t w. let is = circle_table tables links t w in all t (omega (arith, is.0)) (most t is.1 is.2) w
told tables links a n (Some x) one most found = (found.0, λ u less w. found.1 u (omega (arith, (circle_table tables links u w).0)) less w)

pub returns : goal.returns
returns c =
    let tables = c.args.tables in
    let links = c.args.links.now in
    let numbers = c.new.result in
    let n = range_inclusive_left gap numbers in
    let off : ℕ → Type 0 = λ t. OnCircle tables links t → ⊥ in
    let first = first_from_find _ _ c.find.result (OnCircle tables links) off c.find.ensures.ran (counted numbers) (λ x q k. search (rules, tests)) (λ x q k. (search (rules, tests), search (rules, tests))) in
    let one : numbers.start ≡ 1 = omega (arith, c.new.ensures.start) in
    let most : (t : ℕ) → t ≤ tables → t ≤ 8 → t < numbers.start + n = λ t low high. rw (c.new.ensures.start) (reaches numbers.end t numbers.exhausted c.new.ensures.exhausted (omega arith)) in
    let answer = told tables links numbers.start n c.find.result one most (first_number (OnCircle tables links) off numbers.start n c.find.result first) in
    record {
      answer = answer;
      named = first_named tables links c.find.result answer;
      none = none_named tables links c.find.result answer;
      itself = named_on tables links c.find.result answer;
    }
