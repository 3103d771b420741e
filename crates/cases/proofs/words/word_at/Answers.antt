use Rattle.std.proofs.Common.{◌≡◌, ◌/◌, ◌<◌, ◌≤◌, ℕ, ℤ, pos, List, Option, Some, None, MatchOption, length, get_or, Bor, sym, ap, ◌∙◌, w32, to_z, arith, rules}
use borrow.Author.Tests.{tests}
use Rattle.std.specs.Int.{from_be_bytes}
use Rattle.std.specs.List.{HoldsAt}
use Rattle.std.specs.Simd.{first_chunks}
use Rattle.std.proofs.lemmas.Int.{to_z-of_z}
use Rattle.std.proofs.lemmas.Bool.{le-ltb, cond-false}
use Rattle.cases.specs.Words.{word}
use Rattle.cases.proofs.Fours.{four_at, word_of_four}
use Rattle.cases.proofs.words.word_at.Goals as goal

-- What is read of the four bytes at a place, if there are four, is the word.
read : (b : List ℕ) (at : ℕ) (fours : List (List ℕ)) (o : Option (Bor (List ℕ))) (r : ℤ) (Said : Bor (List ℕ) → Type 0) → length fours ≡ length b / 4 → fours ≡ first_chunks 4 (length b / 4) b → MatchOption o (length fours ≤ at) (λ x. (at < length fours) × HoldsAt (λ y. x.now ≡ y) fours at) → MatchOption o (r ≡ pos 0) Said → ((x : Bor (List ℕ)) → Said x → r ≡ to_z w32 (from_be_bytes w32 x.now)) → r ≡ word b at
unfolding word
read b at fours None r Said count are past is made = is ∙ sym (cond-false _ _ _ (le-ltb at (length b / 4) (omega arith)))
read b at fours (Some x) r Said count are has is made =
    let lt : at < length b / 4 = omega (arith, has.0) in
    made x is ∙ word_of_four b x.now at lt (has.1 x.now ∙ ap (λ l. get_or l at x.now) are ∙ four_at b (length b / 4) at x.now lt)

pub returns : goal.returns
returns c =
    to_z-of_z w32 c.map_or.result (search rules)
    ∙ read c.args.bytes.now c.args.at _ c.get.result c.map_or.result _ c.as_chunks.ensures.front_len c.as_chunks.ensures.front c.get.ensures.lookup.3 c.map_or.ensures (λ x p. search (rules, tests))
