-- Numerals: what digits write, and that a number has one numeral.
use Rattle.std.proofs.Common.{◌≡◌, ℕ, zero, suc, ◌+◌, ◌-◌, ◌*◌, ◌%◌, ◌^◌, ◌<◌, ◌≤◌, Bool, true, false, List, [], ◌∷◌, ◌++◌, map, length, get_or, take, decimal, sym, refl, ap, ◌∙◌, subst, add-one, arith}
use lib.Arith.{digits_div, digits_mod}
use Rattle.std.specs.Int.Digits.{digits_of, number_from_digits, AllBelowBase}
use Rattle.std.specs.List.{prefix_len}
use Rattle.std.proofs.lemmas.Fmt.{decimal_digit, decimal-digits_of}
use Rattle.std.proofs.lemmas.Int.Digits.{digits_of_step, number_digits_of, all_below_base_digits_of, first_digits_of, number_push, number_after_ge}
use Rattle.std.proofs.lemmas.List.{take_more, take_all, map_push}
use Rattle.std.proofs.lemmas.Bool.{le-leb, leb-true, and_parts, and_from, cond-true, cond-false}
use Rattle.paths.specs.Spelling.{numeral}
use Rattle.paths.specs.Reading.{is_digit, value_of}

-- All of some bytes are digits.
abbrev pub AllDigits : List ℕ → Type 0
AllDigits [] = Unit {0}
AllDigits (b ∷ bs) = (is_digit b ≡ true) × AllDigits bs

suc_of : (n : ℕ) → 0 < n → (m : ℕ) × (n ≡ suc m)
suc_of zero h = absurd (omega arith)
suc_of (suc m) h = (m, refl)

-- No digit stands at the front.
abbrev pub digitless : List ℕ → Type 0
digitless [] = Unit {0}
digitless (b ∷ bs) = is_digit b ≡ false

-- The digits in front of what begins with none are all those.
pub leading_digits : (ds s : List ℕ) → AllDigits ds → digitless s → prefix_len is_digit (ds ++ s) ≡ length ds
leading_digits [] [] a d = refl
leading_digits [] (b ∷ s) a d = cond-false _ _ _ d
leading_digits (b ∷ ds) s a d = cond-true _ _ _ a.0 ∙ omega (arith, leading_digits ds s a.1 d)

-- Some bytes are digits and what stands behind them, which begins with none.
pub record Split (s : List ℕ) : Type 0 where
  pub ds : List ℕ
  pub rest : List ℕ
  pub whole : s ≡ ds ++ rest
  pub size : length ds ≡ prefix_len is_digit s
  pub digits : AllDigits ds
  pub ends : digitless rest

split_by : (b : ℕ) (s : List ℕ) (t : Bool) → is_digit b ≡ t → Split s → Split (b ∷ s)
split_by b s true e h = record {
  ds = b ∷ h.ds;
  rest = h.rest;
  whole = ap (λ l. b ∷ l) h.whole;
  size = omega (arith, h.size, cond-true (is_digit b) (1 + prefix_len is_digit s) 0 e);
  digits = (e, h.digits);
  ends = h.ends;
}
split_by b s false e h = record {
  ds = [];
  rest = b ∷ s;
  whole = refl;
  size = sym (cond-false (is_digit b) (1 + prefix_len is_digit s) 0 e);
  digits = tt;
  ends = e;
}

pub split_digits : (s : List ℕ) → Split s
split_digits [] = record { ds = []; rest = []; whole = refl; size = refl; digits = tt; ends = tt }
split_digits (b ∷ s) = split_by b s (is_digit b) refl (split_digits s)

-- ---- a number has one numeral

up_down : (ds : List ℕ) → map (λ b. b - 48) (map (λ d. 48 + d) ds) ≡ ds
up_down [] = refl
up_down (d ∷ ds) = let e : (48 + d) - 48 ≡ d = omega arith in rw (e, up_down ds)

down_up : (ds : List ℕ) → AllDigits ds → map (λ d. 48 + d) (map (λ b. b - 48) ds) ≡ ds
down_up [] a = refl
down_up (d ∷ ds) a =
    let low : 48 ≤ d = leb-true 48 d (and_parts _ _ a.0).0 in
    let e : 48 + (d - 48) ≡ d = omega arith in
    rw (e, down_up ds a.1)

digits_up : (ds : List ℕ) → AllBelowBase 10 ds → AllDigits (map (λ d. 48 + d) ds)
digits_up [] u = tt
digits_up (d ∷ ds) u =
    let small = u.0 in
    (and_from _ _ (le-leb 48 (48 + d) (omega arith)) (le-leb (48 + d) 57 (omega arith)), digits_up ds u.1)

under_down : (ds : List ℕ) → AllDigits ds → AllBelowBase 10 (map (λ b. b - 48) ds)
under_down [] a = tt
under_down (d ∷ ds) a =
    let low : 48 ≤ d = leb-true 48 d (and_parts _ _ a.0).0 in
    let high : d ≤ 57 = leb-true d 57 (and_parts _ _ a.0).1 in
    (omega arith, under_down ds a.1)

pub numeral_digits : (n : ℕ) → AllDigits (numeral n)
numeral_digits zero = (refl, tt)
numeral_digits (suc n) = digits_up (digits_of 10 (suc n)) (all_below_base_digits_of 10 (suc n) (omega arith))

pub value_numeral : (n : ℕ) → value_of (numeral n) ≡ n
unfolding value_of
value_numeral zero = refl
value_numeral (suc n) = ap (number_from_digits 10) (up_down (digits_of 10 (suc n))) ∙ number_digits_of 10 (suc n) (omega arith)

first_up : (ds : List ℕ) → 0 < get_or ds 0 0 → (48 < get_or (map (λ d. 48 + d) ds) 0 0) × (0 < length (map (λ d. 48 + d) ds))
first_up [] h = (omega arith, omega arith)
first_up (d ∷ ds) h = (omega arith, omega arith)

-- Past 0 no numeral begins with a zero.
pub numeral_first : (n : ℕ) → 48 < get_or (numeral (suc n)) 0 0
numeral_first n = (first_up (digits_of 10 (suc n)) (first_digits_of 10 (suc n) (omega arith) (omega arith))).0

pub numeral_some : (n : ℕ) → 0 < length (numeral n)
numeral_some zero = omega arith
numeral_some (suc n) = (first_up (digits_of 10 (suc n)) (first_digits_of 10 (suc n) (omega arith) (omega arith))).1

under_at : (es : List ℕ) (k : ℕ) → AllBelowBase 10 es → get_or es k 0 < 10
under_at [] k u = omega arith
under_at (e ∷ es) zero u = u.0
under_at (e ∷ es) (suc k) u = under_at es k u.1

number_pos : (es : List ℕ) (k : ℕ) → 0 < get_or es 0 0 → 0 < number_from_digits 10 (take (suc k) es)
number_pos [] k h = omega arith
number_pos (e ∷ es) k h = omega (arith, number_after_ge 10 (0 * 10 + e) (take k es) (omega arith))

digits_front : (es : List ℕ) → AllBelowBase 10 es → 0 < get_or es 0 0 → (k : ℕ) → k ≤ length es → digits_of 10 (number_from_digits 10 (take k es)) ≡ take k es
digits_front es u h zero le = refl
digits_front es u h (suc k) le =
    let more : take (suc k) es ≡ take k es ++ (get_or es k 0 ∷ []) = ap (λ m. take m es) (sym (add-one k)) ∙ take_more es k 0 (omega arith) in
    let a = number_from_digits 10 (take k es) in
    let d = get_or es k 0 in
    let is : number_from_digits 10 (take (suc k) es) ≡ a * 10 + d = ap (number_from_digits 10) more ∙ number_push 10 (take k es) d in
    let small = under_at es k u in
    let some = number_pos es k h in
    let step = digits_of_step 10 (a * 10 + d) (omega arith) (omega arith) in
    ap (digits_of 10) is ∙ step ∙ ap (λ q. digits_of 10 q ++ ((a * 10 + d) % 10 ∷ [])) (digits_div a small) ∙ ap (λ r. digits_of 10 a ++ (r ∷ [])) (digits_mod a small)
    ∙ ap (λ l. l ++ (d ∷ [])) (digits_front es u h k (omega arith)) ∙ sym more

numeral_up : (n : ℕ) → 0 < n → numeral n ≡ map (λ d. 48 + d) (digits_of 10 n)
numeral_up zero h = absurd (omega arith)
numeral_up (suc n) h = refl

first_down : (ds : List ℕ) → 48 < get_or ds 0 0 → (0 < get_or (map (λ b. b - 48) ds) 0 0) × (0 < length ds)
first_down [] h = (omega arith, omega arith)
first_down (d ∷ ds) h = (omega arith, omega arith)

-- Digits with no zero in front are the numeral of what they write, which is past 0.
pub numeral_value : (ds : List ℕ) → AllDigits ds → 48 < get_or ds 0 0 → (n : ℕ) × (value_of ds ≡ suc n) × (numeral (suc n) ≡ ds)
unfolding value_of
numeral_value ds a h =
    let es = map (λ b. b - 48) ds in
    let f = first_down ds h in
    let front = digits_front es (under_down ds a) f.0 (length es) (omega arith) in
    let all = take_all (length es) es (omega arith) in
    let is : digits_of 10 (number_from_digits 10 es) ≡ es = ap (λ l. digits_of 10 (number_from_digits 10 l)) (sym all) ∙ front ∙ all in
    let some : 0 < number_from_digits 10 (take (suc (length es)) es) = number_pos es (length es) f.0 in
    let past : 0 < number_from_digits 10 es = subst (λ (l : List ℕ). 0 < number_from_digits 10 l) (take_all (suc (length es)) es (omega arith)) some in
    let up = suc_of (number_from_digits 10 es) past in
    (up.0, up.1, ap numeral (sym up.1) ∙ numeral_up (number_from_digits 10 es) past ∙ ap (map (λ d. 48 + d)) is ∙ down_up ds a)

-- One digit more.
pub value_push : (ds : List ℕ) (d : ℕ) → value_of (ds ++ d ∷ []) ≡ value_of ds * 10 + (d - 48)
unfolding value_of
value_push ds d = ap (number_from_digits 10) (map_push (λ b. b - 48) ds d) ∙ number_push 10 (map (λ b. b - 48) ds) (d - 48)

-- What is printed of a number is its numeral.
pub decimal_numeral : (n : ℕ) → n < 2 ^ 64 → decimal n ≡ numeral n
decimal_numeral zero h = decimal_digit 0 (omega arith)
decimal_numeral (suc n) h = decimal-digits_of (suc n) (omega arith) h
