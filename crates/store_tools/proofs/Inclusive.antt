-- The numbers of a range with its end, one after another.
use Rattle.std.proofs.Common.{◌≡◌, ℕ, zero, suc, ◌+◌, ◌-◌, ◌<◌, Bool, true, false, refl, ap, ◌∙◌, arith}
use Rattle.std.proofs.lemmas.Iterator.{YieldsList}
use Rattle.std.specs.Iterator.{AlwaysYields}
use Rattle.std.specs.List.{range_with_len}
use Rattle.std.specs.Range.{range_inclusive_start, range_inclusive_end, range_inclusive_exhausted, range_inclusive_len, range_inclusive_left, range_inclusive_steps}
use Rattle.std.specs.declared.ops.RangeInclusive.{RangeInclusive}

awake : (a b : ℕ) (x : Bool) → 0 < range_inclusive_len (λ m n. n - m) a b x → x ≡ false
awake a b true h = absurd (omega (arith, h))
awake a b false h = refl

counts : (n a : ℕ) (s : RangeInclusive ℕ) → range_inclusive_left (λ m k. k - m) s ≡ n → (0 < n → range_inclusive_start s ≡ a)
    → AlwaysYields (range_inclusive_steps (λ m k. k - m) (λ m k. k ≡ m + 1)) (λ x. x) s (range_with_len a n)
counts zero a s e f = λ x j p. omega (arith, e, p.1.1)
counts (suc n) a s e f = (
  (λ j p. omega (arith, e, p.1.0)),
  (λ x j p. (
    p.1.0 ∙ f (omega arith),
    counts n (a + 1) j (omega (arith, e, p.1.1)) (λ lt. p.1.2 (awake (range_inclusive_start j) (range_inclusive_end j) (range_inclusive_exhausted j) (omega (arith, e, p.1.1, lt))) ∙ ap (λ m. m + 1) (f (omega arith))),
  )),
)

pub inclusive_gives : (s : RangeInclusive ℕ) (a b : ℕ) → range_inclusive_start s ≡ a → range_inclusive_end s ≡ b → range_inclusive_exhausted s ≡ false
    → YieldsList (range_inclusive_steps (λ m k. k - m) (λ m k. k ≡ m + 1)) (λ x. x) s (range_with_len a (b - a + 1 - (a - b)))
inclusive_gives s a b e f q = record { runs = counts (b - a + 1 - (a - b)) a s (λ i. range_inclusive_len (λ m k. k - m) (e i) (f i) (q i)) (λ _. e) }
