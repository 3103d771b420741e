-- The value of digits one by one, and the tests of a class that the code makes.
use Rattle.std.proofs.Common.{◌≡◌, ℕ, zero, suc, ◌+◌, ◌<◌, ◌≤◌, List, [], ◌∷◌, length, get_or, take, Some, None, Option, ⊎_elim, fold, sym, refl, ◌∙◌, le_refl, arith}
use Rattle.std.proofs.lemmas.List.Sums.{fold_more}
use denote.Enum.Bare.{sameb}
use Rattle.classes.specs.contracts.Class.{the_type}
use Rattle.classes.specs.declared.Class.{Class}
use Rattle.classes.specs.declared.Class.TheVariants.{Other, Blank, Letter, Digit, Sign, Twin}
use Rattle.lexer.specs.Runs.{Blanks, Digits, goes_on}
use Rattle.std.proofs.lemmas.Bool.{cond-true, cond-false, le-leb, lt-leb, cases_lt}
use Rattle.std.proofs.lemmas.Option.{none-some}
use Rattle.lexer.specs.Numbers.{with_digit, in_range, value_of}

-- Digits never make a number smaller.
folded_grows : (n : ℕ) (ds : List ℕ) → n ≤ fold with_digit n ds
folded_grows n [] = le_refl _
folded_grows n (d ∷ ds) = omega (arith, folded_grows (with_digit n d) ds)

front_below : (n : ℕ) (ds : List ℕ) (i : ℕ) → fold with_digit n (take i ds) ≤ fold with_digit n ds
front_below n ds zero = folded_grows n ds
front_below n [] (suc i) = le_refl _
front_below n (d ∷ ds) (suc i) = front_below (with_digit n d) ds i

pub value_front : (ds : List ℕ) (i : ℕ) → value_of (take i ds) ≤ value_of ds
unfolding value_of
value_front ds i = front_below 0 ds i

-- One digit is passed.
pub value_more : (ds : List ℕ) (i : ℕ) → i < length ds → value_of (take (i + 1) ds) ≡ with_digit (value_of (take i ds)) (get_or ds i 0)
unfolding value_of
value_more ds i h = fold_more with_digit 0 ds i 0 h

-- A test of a class, as the code makes it, is whether the class goes on with a run.
pub digits_test : (k : Class) → sameb the_type k Digit ≡ goes_on Digits k
digits_test Other = refl
digits_test Blank = refl
digits_test Letter = refl
digits_test Digit = refl
digits_test Sign = refl
digits_test Twin = refl

pub blanks_test : (k : Class) → sameb the_type k Blank ≡ goes_on Blanks k
blanks_test Other = refl
blanks_test Blank = refl
blanks_test Letter = refl
blanks_test Digit = refl
blanks_test Sign = refl
blanks_test Twin = refl

-- Which numbers are in range.
pub in_range_fits : (n : ℕ) → n ≤ 1000000000 → in_range n ≡ Some n
in_range_fits n h = cond-true _ _ _ (le-leb n 1000000000 h)

pub in_range_past : (n : ℕ) → 1000000000 < n → in_range n ≡ None
in_range_past n h = cond-false _ _ _ (lt-leb n 1000000000 h)

pub in_range_some : (n m : ℕ) → in_range n ≡ Some m → (n ≤ 1000000000) × (m ≡ n)
in_range_some n m h =
    ⊎_elim
    (λ past. absurd (none-some m (sym (in_range_past n past) ∙ h)))
    (λ fits. let e : ◌≡◌ {A = Option ℕ} (Some m) (Some n) = sym h ∙ in_range_fits n fits in (fits, cc))
    (cases_lt 1000000000 n)

pub in_range_none : (n : ℕ) → in_range n ≡ None → 1000000000 < n
in_range_none n h = ⊎_elim (λ past. past) (λ fits. absurd (none-some n (sym h ∙ in_range_fits n fits))) (cases_lt 1000000000 n)
