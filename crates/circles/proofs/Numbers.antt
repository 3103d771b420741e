-- What a chain over the numbers a..=b goes through.
use Rattle.std.proofs.Common.{◌≡◌, ℕ, suc, ◌+◌, ◌-◌, ◌<◌, ◌≤◌, Bool, true, false, List, ◌∷◌, length, Option, Some, None, MatchOption, sym, refl, ap, subst, ◌∙◌, arith}
use Rattle.std.proofs.lemmas.Bool.{true≢false}
use Rattle.std.specs.List.{AllWithin, HoldsAt, range_with_len}
use Rattle.std.specs.declared.ops.RangeInclusive.{RangeInclusive}
use Rattle.std.specs.Range.{range_inclusive_len, range_inclusive_left, range_inclusive_steps}
use Rattle.std.proofs.lemmas.Iterator.{YieldsList}
use Rattle.std.proofs.lemmas.Iterator.Consumers.{YieldsList-from_shown}
use Rattle.std.proofs.lemmas.List.FromFn.{length-range_with_len, get_or-range_with_len}

abbrev pub gap : ℕ → ℕ → ℕ
gap a b = b - a

abbrev pub steps : RangeInclusive ℕ → Option ℕ → RangeInclusive ℕ → Type 0
steps = range_inclusive_steps gap (λ a b. b ≡ a + 1)

abbrev pub left_of : RangeInclusive ℕ → List ℕ
left_of s = range_with_len s.start (range_inclusive_left gap s)

none_left : (s t : RangeInclusive ℕ) → steps s None t → length (left_of s) ≡ 0
none_left s t e = length-range_with_len s.start (range_inclusive_left gap s) ∙ e.1.0

-- The first of some numbers, and then the others; there are none where the last has come.
one_more : (spent : Bool) (a b n m : ℕ) → m + 1 ≡ n → (spent ≡ true → m ≡ 0) → (spent ≡ false → b ≡ a + 1) → range_with_len a n ≡ a ∷ range_with_len b m
one_more true a b n m e none on = let is : n ≡ 1 = omega (arith, none refl) in rw (is, none refl)
one_more false a b n m e none on = let is : n ≡ suc m = omega arith in rw (is, on refl)

all_come : (gap : ℕ → ℕ → ℕ) (a b : ℕ) (spent : Bool) → spent ≡ true → range_inclusive_len gap a b spent ≡ 0
all_come gap a b spent e = ap (range_inclusive_len gap a b) e

next_left : (s : RangeInclusive ℕ) (x : ℕ) (t : RangeInclusive ℕ) → steps s (Some x) t → left_of s ≡ x ∷ left_of t
next_left s x t e =
    one_more t.exhausted s.start t.start (range_inclusive_left gap s) (range_inclusive_left gap t) e.1.1 (all_come gap t.start t.end t.exhausted) e.1.2
    ∙ ap (λ y. y ∷ left_of t) (sym e.1.0)

pub counted : (s : RangeInclusive ℕ) → YieldsList steps (λ x. x) s (left_of s)
counted s = YieldsList-from_shown steps (λ x. x) left_of none_left next_left s

-- The first number that passes, said of the numbers and not of their list.
pub first_number : (Yes No : ℕ → Type 0) (a n : ℕ) (r : Option ℕ) → MatchOption r (AllWithin No (range_with_len a n) 0 (length (range_with_len a n))) (λ x. Yes x × (i : ℕ) × (i < length (range_with_len a n)) × HoldsAt (λ y. y ≡ x) (range_with_len a n) i × AllWithin No (range_with_len a n) 0 i) → MatchOption r ((k : ℕ) → a ≤ k → k < a + n → No k) (λ x. Yes x × ((k : ℕ) → a ≤ k → k < x → No k))
first_number Yes No a n None all = λ k low high.
    let is : a + (k - a) ≡ k = omega arith in
    subst No (get_or-range_with_len a n (k - a) 0 (omega arith) ∙ is) (all (k - a) 0 (omega arith) (omega (arith, length-range_with_len a n)))
first_number Yes No a n (Some x) found =
    let i = found.1 in
    let fits : i < n = omega (arith, found.2, length-range_with_len a n) in
    let at = sym (found.3 0) ∙ get_or-range_with_len a n i 0 fits in (
      found.0,
      λ k low high.
          let is : a + (k - a) ≡ k = omega arith in
          subst No (get_or-range_with_len a n (k - a) 0 (omega arith) ∙ is) (found.4 (k - a) 0 (omega arith) (omega arith)),
    )

-- No number up to the last lies behind those that come.
pub reaches : (b t : ℕ) (spent : Bool) → spent ≡ false → t ≤ b → t < 1 + range_inclusive_len gap 1 b spent
reaches b t false e h = omega arith
reaches b t true e h = absurd (true≢false e)
