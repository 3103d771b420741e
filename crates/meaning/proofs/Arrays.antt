-- Arrays as functions, and rows of a fixed width. Assumes nothing.
use Rattle.std.proofs.Common.{◌≡◌, ℕ, zero, suc, ◌<◌, ◌≤◌, Bool, true, false, cond, eqb, List, [], ◌∷◌, length, get_or, set, ℤ, pos, sym, refl, ap, ◌∙◌, arith, get_or-set_other, get_or-set_same, eqb-true}
use mathlib.Core.Path.{fun_ext}
use mathlib.Core.Option.{none, some}
use borrow.Author.Tests.{eqb-false}
use Rattle.meaning.specs.Values.{put, nth, numbered}
use Rattle.meaning.specs.Evaluation.{Row, attr, alter, cut}
use Rattle.meaning.specs.Schema.{by_number}

-- ---- an array as a function, through a reading f of its elements

module _ {A B : Type 0} (f : A → B) (xs : List A) (i : ℕ) (v d : A) (lt : i < length xs) where
  read_set : (y : ℕ) (b : Bool) → eqb y i ≡ b → f (get_or (set xs i v) y d) ≡ cond b (f v) (f (get_or xs y d))
  read_set y true e = ap f (ap (λ n. get_or (set xs i v) n d) (eqb-true y i e) ∙ get_or-set_same xs i v d lt)
  read_set y false e = ap f (get_or-set_other xs i y v d (eqb-false y i e))

  -- an element is set
  pub reads_put : ◌≡◌ {A = ℕ → B} (λ y. f (get_or (set xs i v) y d)) (put (λ y. f (get_or xs y d)) i (f v))
  reads_put = fun_ext (λ y. read_set y (eqb y i) refl)

  -- an element is set to one that reads the same
  pub reads_kept : f v ≡ f (get_or xs i d) → ◌≡◌ {A = ℕ → B} (λ y. f (get_or (set xs i v) y d)) (λ y. f (get_or xs y d))
  reads_kept e = fun_ext (λ y. go y (eqb y i) refl)
    where
      go : (y : ℕ) (b : Bool) → eqb y i ≡ b → f (get_or (set xs i v) y d) ≡ f (get_or xs y d)
      go y true q = read_set y true q ∙ e ∙ ap (λ n. f (get_or xs n d)) (sym (eqb-true y i q))
      go y false q = read_set y false q

-- an array of values, as a function
pub array_put : {A : Type 0} (xs : List A) (i : ℕ) (v d : A) → i < length xs → (λ x. get_or (set xs i v) x d) ≡ put (λ x. get_or xs x d) i v
array_put xs i v d lt = reads_put (λ x. x) xs i v d lt

-- ---- elements by place and by number

module _ {A : Type 0} where
  pub nth_in : (xs : List A) (n : ℕ) (d : A) → n < length xs → nth xs n ≡ some (get_or xs n d)
  nth_in [] n d h = absurd (omega arith)
  nth_in (x ∷ xs) zero d h = refl
  nth_in (x ∷ xs) (suc n) d h = nth_in xs n d (omega arith)

  pub nth_past : (xs : List A) (n : ℕ) → length xs ≤ n → nth xs n ≡ none
  nth_past [] n h = refl
  nth_past (x ∷ xs) zero h = absurd (omega arith)
  nth_past (x ∷ xs) (suc n) h = nth_past xs n (omega arith)

  -- a number from 1 to the length has an element
  pub numbered_in : (xs : List A) (n : ℕ) (d : A) → 0 < n → n ≤ length xs → numbered xs n ≡ some (by_number d xs n)
  numbered_in xs zero d lo hi = absurd (omega arith)
  numbered_in xs (suc n) d lo hi = nth_in xs n d (omega arith)

  pub numbered_past : (xs : List A) (n : ℕ) → length xs < n → numbered xs n ≡ none
  numbered_past xs zero h = refl
  numbered_past xs (suc n) h = nth_past xs n (omega arith)

-- ---- rows

pub alter_set : (r : Row) (k : ℕ) (z : ℤ) → k < length r → alter r k z ≡ set r k z
alter_set [] k z h = absurd (omega arith)
alter_set (a ∷ r) zero z h = refl
alter_set (a ∷ r) (suc k) z h = ap (λ q. a ∷ q) (alter_set r k z (omega arith))

pub cut_length : (n : ℕ) (r : Row) → length (cut n r) ≡ n
cut_length zero r = refl
cut_length (suc n) [] = ap suc (cut_length n [])
cut_length (suc n) (z ∷ r) = ap suc (cut_length n r)

-- a row of its own width is not cut
pub cut_whole : (r : Row) → cut (length r) r ≡ r
cut_whole [] = refl
cut_whole (z ∷ r) = ap (λ q. z ∷ q) (cut_whole r)

pub cut_attr : (n : ℕ) (r : Row) (k : ℕ) → k < n → attr (cut n r) k ≡ attr r k
cut_attr zero r k h = absurd (omega arith)
cut_attr (suc n) [] zero h = refl
cut_attr (suc n) [] (suc k) h = cut_attr n [] k (omega arith)
cut_attr (suc n) (z ∷ r) zero h = refl
cut_attr (suc n) (z ∷ r) (suc k) h = cut_attr n r k (omega arith)

-- an attribute beyond the cut reads as 0
pub cut_past : (n : ℕ) (r : Row) (k : ℕ) → n ≤ k → attr (cut n r) k ≡ pos 0
cut_past zero r k h = refl
cut_past (suc n) r zero h = absurd (omega arith)
cut_past (suc n) [] (suc k) h = cut_past n [] k (omega arith)
cut_past (suc n) (z ∷ r) (suc k) h = cut_past n r k (omega arith)

-- an attribute that a row does not have reads as 0
pub attr_past : (r : Row) (k : ℕ) → length r ≤ k → attr r k ≡ pos 0
attr_past [] k h = refl
attr_past (a ∷ r) zero h = absurd (omega arith)
attr_past (a ∷ r) (suc k) h = attr_past r k (omega arith)

-- an attribute set within the width, before or after the cut
pub cut_alter : (n : ℕ) (r : Row) (k : ℕ) (z : ℤ) → k < n → cut n (alter r k z) ≡ alter (cut n r) k z
cut_alter zero r k z h = absurd (omega arith)
cut_alter (suc n) [] zero z h = refl
cut_alter (suc n) [] (suc k) z h = ap (λ q. pos 0 ∷ q) (cut_alter n [] k z (omega arith))
cut_alter (suc n) (a ∷ r) zero z h = refl
cut_alter (suc n) (a ∷ r) (suc k) z h = ap (λ q. a ∷ q) (cut_alter n r k z (omega arith))

-- an attribute set to the value that it has
pub cut_own : (n : ℕ) (r : Row) (k : ℕ) → cut n (alter r k (attr r k)) ≡ cut n r
cut_own zero r k = refl
cut_own (suc n) [] zero = refl
cut_own (suc n) [] (suc k) = ap (λ q. pos 0 ∷ q) (cut_own n [] k)
cut_own (suc n) (a ∷ r) zero = refl
cut_own (suc n) (a ∷ r) (suc k) = ap (λ q. a ∷ q) (cut_own n r k)
