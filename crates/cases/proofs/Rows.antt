-- A record as a row: an array that is made place by place.
use Rattle.std.proofs.Common.{◌≡◌, ℕ, zero, suc, ◌+◌, ◌<◌, ◌≤◌, min, cond, ltb, List, [], ◌∷◌, length, get_or, ℤ, pos, inl, inr, sym, refl, ap, ◌∙◌, subst, arith}
use denote.Param.Members.{Mut}
use Rattle.std.specs.Array.{IsFromFnResult, IsFromFnResultFrom}
use Rattle.std.specs.Fn.{Called}
use Rattle.std.proofs.lemmas.List.FromFn.{fill_by_all}
use Rattle.std.proofs.lemmas.Bool.{lt-ltb, le-ltb, cond-true, cond-false, cases_eq, cases_lt}
use Rattle.meaning.specs.Evaluation.{cut}
use Rattle.cases.specs.Words.{word}
use Rattle.cases.specs.Meaning.{values}

-- The value at a place of a row of so many values; the others read as 0.
abbrev pub cell : List ℕ → ℕ → ℕ → ℕ → ℤ
cell b w width k = cond (ltb k width) (word b (w + k)) (pos 0)

-- Each place of an array is what the closure answers there, if its calls leave it as it was.
element : {F B : Type 0} (g : Mut F (ℕ × Unit {0}) B) (f : F) (value : ℕ → B) → ((i : ℕ) (y : B) (q : F) → Called g f (i, tt) y q → (q ≡ f) × (y ≡ value i)) → (ys : List B) (i n : ℕ) → IsFromFnResultFrom g f ys i n → (k : ℕ) → i ≤ k → k < i + n → (d : B) → get_or ys k d ≡ value k
element g f value same ys i zero h k lo hi d = absurd (omega arith)
element g f value same ys i (suc n) h k lo hi d =
    let answer = same i h.1 h.0 h.3 in
    elim (cases_eq k i) [
      | inl e ↦ ap (λ j. get_or ys j d) e ∙ h.2.1 d ∙ answer.1 ∙ ap value (sym e)
      | inr ne ↦ element g f value same ys (i + 1) n (subst (λ q. IsFromFnResultFrom g q ys (i + 1) n) answer.0 h.4) k (omega arith) (omega arith) d
    ]

cut_long : (n : ℕ) (r : List ℤ) → length (cut n r) ≡ n
cut_long zero r = refl
cut_long (suc n) [] = omega (arith, cut_long n [])
cut_long (suc n) (z ∷ r) = omega (arith, cut_long n r)

cut_inside : (b : List ℕ) (n w m k : ℕ) → k < n → k < m → get_or (cut n (values b w m)) k (pos 0) ≡ word b (w + k)
cut_inside b zero w m k h l = absurd (omega arith)
cut_inside b (suc n) w zero k h l = absurd (omega arith)
cut_inside b (suc n) w (suc m) zero h l = let same : w ≡ w + 0 = omega arith in ap (word b) same
cut_inside b (suc n) w (suc m) (suc k) h l = let over : suc w + k ≡ w + suc k = omega arith in cut_inside b n (suc w) m k (omega arith) (omega arith) ∙ ap (word b) over

cut_beyond : (b : List ℕ) (n w m k : ℕ) → m ≤ k → get_or (cut n (values b w m)) k (pos 0) ≡ pos 0
cut_beyond b zero w m k l = refl
cut_beyond b (suc n) w zero zero l = refl
cut_beyond b (suc n) w zero (suc k) l = cut_beyond b n w zero k (omega arith)
cut_beyond b (suc n) w (suc m) zero l = absurd (omega arith)
cut_beyond b (suc n) w (suc m) (suc k) l = cut_beyond b n (suc w) m k (omega arith)

cut_cell : (b : List ℕ) (n w m k : ℕ) → k < n → get_or (cut n (values b w (min m n))) k (pos 0) ≡ cell b w m k
cut_cell b n w m k h =
    elim (cases_lt k m) [
      | inl l ↦ cut_inside b n w (min m n) k h (omega arith) ∙ sym (cond-true _ _ _ (lt-ltb k m l))
      | inr g ↦ cut_beyond b n w (min m n) k (omega arith) ∙ sym (cond-false _ _ _ (le-ltb k m g))
    ]

-- An array of the values at its places is the row.
pub row_made : {F : Type 0} (g : Mut F (ℕ × Unit {0}) ℤ) (f : F) (b : List ℕ) (w m n : ℕ) → ((i : ℕ) (y : ℤ) (q : F) → Called g f (i, tt) y q → (q ≡ f) × (y ≡ cell b w m i)) → (ys : List ℤ) → IsFromFnResult g f ys n → ys ≡ cut n (values b w (min m n))
row_made g f b w m n same ys h =
    fill_by_all (cell b w m) ys n (pos 0) h.long (λ k l. element g f (cell b w m) same ys 0 n h.each k (omega arith) (omega arith) (pos 0))
    ∙ sym (fill_by_all (cell b w m) (cut n (values b w (min m n))) n (pos 0) (cut_long n _) (cut_cell b n w m))
