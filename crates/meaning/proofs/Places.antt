-- A row among others: at its place, and what tests say of it there; tables by their rows alone. Assumes nothing.
use Rattle.std.proofs.Common.{◌≡◌, ℕ, zero, suc, ◌<◌, ◌≤◌, Bool, true, false, cond, not, ◌&&◌, ◌||◌, ◌⊎◌, ◌↔◌, List, [], ◌∷◌, ◌++◌, length, get_or, take, drop, ℤ, sym, refl, ap, ◌∙◌, ap₂, inl, inr, arith}
use lib.Signed.{le_z, lt_z}
use Rattle.std.proofs.lemmas.Int.{ints}
use Rattle.meaning.specs.Values.{any, all, eq_z}
use Rattle.meaning.specs.Evaluation.{Row, attr}
use Rattle.meaning.specs.Tables.{Table, among, in_order, ascending, has, distinct}
use Rattle.meaning.specs.Folds.{place, rising}
use Rattle.meaning.proofs.Basics.{and_iff}
use Rattle.meaning.proofs.Members.{In, all_in}
use Rattle.meaning.proofs.Rows.{has_in, among_in, distinct_cons, ascending_cons, in_order_ascending, same_rows}

-- ---- the place of a row

le_not_lt : (a b : ℤ) → le_z a b ≡ not (lt_z b a)
le_not_lt a b = grind (arith, ints)

-- a row put among others stands behind those whose keys are below its own
pub among_place : (k : ℕ) (r : Row) (T : Table) → among k r T ≡ take (place k (attr r k) T) T ++ (r ∷ drop (place k (attr r k) T) T)
among_place k r [] = refl
among_place k r (a ∷ zs) = ap (λ b. cond b (r ∷ (a ∷ zs)) (a ∷ among k r zs)) (le_not_lt (attr r k) (attr a k)) ∙ go (lt_z (attr a k) (attr r k)) (among_place k r zs)
  where
    p : ℕ
    p = place k (attr r k) zs

    go : (b : Bool) → among k r zs ≡ take p zs ++ (r ∷ drop p zs) → cond (not b) (r ∷ (a ∷ zs)) (a ∷ among k r zs) ≡ take (cond b (suc p) 0) (a ∷ zs) ++ (r ∷ drop (cond b (suc p) 0) (a ∷ zs))
    go true rec = ap (λ X. a ∷ X) rec
    go false rec = refl

pub place_bound : (k : ℕ) (z : ℤ) (T : Table) → place k z T ≤ length T
place_bound k z [] = omega arith
place_bound k z (a ∷ zs) = go (lt_z (attr a k) z) (place_bound k z zs)
  where
    go : (b : Bool) → place k z zs ≤ length zs → cond b (suc (place k z zs)) 0 ≤ suc (length zs)
    go true rec = omega arith
    go false rec = omega arith

-- a place behind rows with keys below z, and before one that is not below it or at the end, is z's
pub place_is : (k : ℕ) (z : ℤ) (T : Table) (i : ℕ) → ((j : ℕ) → j < i → lt_z (attr (get_or T j []) k) z ≡ true) → (length T ≡ i) ⊎ ((i < length T) × (lt_z (attr (get_or T i []) k) z ≡ false)) → place k z T ≡ i
place_is k z [] zero f g = refl
place_is k z [] (suc i) f (inl e) = absurd (omega arith)
place_is k z [] (suc i) f (inr q) = let h = q.0 in absurd (omega arith)
place_is k z (a ∷ zs) zero f (inl e) = absurd (omega arith)
place_is k z (a ∷ zs) zero f (inr q) = ap (λ b. cond b (suc (place k z zs)) 0) q.1
place_is k z (a ∷ zs) (suc i) f (inl e) =
    ap (λ b. cond b (suc (place k z zs)) 0) (f 0 (omega arith)) ∙ ap suc (place_is k z zs i (λ j l. f (suc j) (omega arith)) (inl (omega arith)))
place_is k z (a ∷ zs) (suc i) f (inr q) =
    let h = q.0 in
    ap (λ b. cond b (suc (place k z zs)) 0) (f 0 (omega arith)) ∙ ap suc (place_is k z zs i (λ j l. f (suc j) (omega arith)) (inr (omega arith, q.1)))

-- ---- tests of a table with one row more

and_swap : (a b c : Bool) → (a && (b && c)) ≡ (b && (a && c))
and_swap true b c = refl
and_swap false true c = refl
and_swap false false c = refl

or_swap : (a b c : Bool) → (a || (b || c)) ≡ (b || (a || c))
or_swap false b c = refl
or_swap true true c = refl
or_swap true false c = refl

pub all_among : (p : Row → Bool) (k : ℕ) (r : Row) (T : Table) → all p (among k r T) ≡ (p r && all p T)
all_among p k r [] = refl
all_among p k r (a ∷ zs) = go (le_z (attr r k) (attr a k)) (all_among p k r zs)
  where
    go : (b : Bool) → all p (among k r zs) ≡ (p r && all p zs) → all p (cond b (r ∷ (a ∷ zs)) (a ∷ among k r zs)) ≡ (p r && (p a && all p zs))
    go true rec = refl
    go false rec = ap (λ b. p a && b) rec ∙ and_swap (p a) (p r) (all p zs)

pub any_among : (p : Row → Bool) (k : ℕ) (r : Row) (T : Table) → any p (among k r T) ≡ (p r || any p T)
any_among p k r [] = refl
any_among p k r (a ∷ zs) = go (le_z (attr r k) (attr a k)) (any_among p k r zs)
  where
    go : (b : Bool) → any p (among k r zs) ≡ (p r || any p zs) → any p (cond b (r ∷ (a ∷ zs)) (a ∷ among k r zs)) ≡ (p r || (p a || any p zs))
    go true rec = refl
    go false rec = ap (λ b. p a || b) rec ∙ or_swap (p a) (p r) (any p zs)

eq_z_swap : (a b : ℤ) → eq_z a b ≡ eq_z b a
eq_z_swap a b = grind (arith, ints)

-- K of an INSERT is whether its key is there
pub distinct_with : (k : ℕ) (r : Row) (T : Table) → distinct k (among k r T) ≡ (not (has k T (attr r k)) && distinct k T)
distinct_with k r [] = refl
distinct_with k r (a ∷ zs) = go (le_z (attr r k) (attr a k)) (distinct_with k r zs)
  where
    swap : (e u v d : Bool) → (not (e || u) && (not v && d)) ≡ (not (e || v) && (not u && d))
    swap true u v d = refl
    swap false true true d = refl
    swap false true false d = refl
    swap false false true d = refl
    swap false false false d = refl

    go : (b : Bool) → distinct k (among k r zs) ≡ (not (has k zs (attr r k)) && distinct k zs) →
        distinct k (cond b (r ∷ (a ∷ zs)) (a ∷ among k r zs)) ≡ (not (eq_z (attr a k) (attr r k) || has k zs (attr r k)) && (not (has k zs (attr a k)) && distinct k zs))
    go true rec = refl
    go false rec =
        ap₂ (λ b d. not b && d) (any_among (λ q. eq_z (attr q k) (attr a k)) k r zs) rec ∙ swap (eq_z (attr r k) (attr a k)) (has k zs (attr a k)) (has k zs (attr r k)) (distinct k zs)
        ∙ ap (λ b. not (b || has k zs (attr r k)) && (not (has k zs (attr a k)) && distinct k zs)) (eq_z_swap (attr r k) (attr a k))

-- ---- rows in any order

pub order_in : (k : ℕ) (rs : List Row) (r : Row) → In r (in_order k rs) ↔ In r rs
order_in k [] r = (λ i. i, λ i. i)
order_in k (x ∷ xs) r = (
  λ i. elim ((among_in k x (in_order k xs) r).0 i) [ inl e ↦ inl e | inr j ↦ inr ((order_in k xs r).0 j) ],
  λ i. (among_in k x (in_order k xs) r).1 (elim i [ inl e ↦ inl e | inr j ↦ inr ((order_in k xs r).1 j) ]),
)

same_truth : (a b : Bool) → (a ≡ true) ↔ (b ≡ true) → a ≡ b
same_truth true true f = refl
same_truth true false f = sym (f.0 refl)
same_truth false true f = f.1 refl
same_truth false false f = refl

has_order : (k : ℕ) (rs : List Row) (z : ℤ) → has k (in_order k rs) z ≡ has k rs z
has_order k rs z = same_truth _ _ (
  λ q. let h = (has_in k (in_order k rs) z).0 q in (has_in k rs z).1 (h.0, (order_in k rs h.0).0 h.1, h.2),
  λ q. let h = (has_in k rs z).0 q in (has_in k (in_order k rs) z).1 (h.0, (order_in k rs h.0).1 h.1, h.2),
)

-- putting rows in order makes no two of them share a key, and parts none
pub distinct_order : (k : ℕ) (rs : List Row) → distinct k (in_order k rs) ≡ distinct k rs
distinct_order k [] = refl
distinct_order k (x ∷ xs) = distinct_with k x (in_order k xs) ∙ ap₂ (λ b d. not b && d) (has_order k xs (attr x k)) (distinct_order k xs)

-- rows with distinct keys come to the same table in any order
pub any_order : (k : ℕ) (rs qs : List Row) → distinct k rs ≡ true → distinct k qs ≡ true → ((r : Row) → In r rs ↔ In r qs) → in_order k rs ≡ in_order k qs
any_order k rs qs d e f =
    same_rows k (in_order k rs) (in_order k qs) (in_order_ascending k rs) (in_order_ascending k qs) (distinct_order k rs ∙ d) (distinct_order k qs ∙ e)
    (λ r. (λ i. (order_in k qs r).1 ((f r).0 ((order_in k rs r).0 i)), λ i. (order_in k rs r).1 ((f r).1 ((order_in k qs r).0 i))))

-- ---- keys that rise

lt_le : (a b : ℤ) → lt_z a b ≡ true → le_z a b ≡ true
lt_le a b e = grind (arith, ints)

lt_ne : (a b : ℤ) → lt_z a b ≡ true → a ≡ b → ⊥
lt_ne a b e q = grind (arith, ints)

le_ne_lt : (a b : ℤ) → le_z a b ≡ true → (b ≡ a → ⊥) → lt_z a b ≡ true
le_ne_lt a b e n = go (lt_z a b) refl
  where
    both : (a b : ℤ) → le_z a b ≡ true → lt_z a b ≡ false → b ≡ a
    both a b e q = grind (arith, ints)

    go : (t : Bool) → lt_z a b ≡ t → t ≡ true
    go true q = refl
    go false q = absurd (n (both a b e q))

-- keys rise exactly when they ascend and are distinct
pub rising_iff : (k : ℕ) (T : Table) → (rising k T ≡ true) ↔ ((ascending k T ≡ true) × (distinct k T ≡ true))
rising_iff k [] = (λ q. (refl, refl), λ q. refl)
rising_iff k (x ∷ xs) = (
  λ q. let r = (and_iff (all (λ y. lt_z (attr x k) (attr y k)) xs) (rising k xs)).0 q in
      let f = (all_in (λ y. lt_z (attr x k) (attr y k)) xs).0 r.0 in
      let i = (rising_iff k xs).0 r.1 in
      ((ascending_cons k x xs).1 (λ y j. lt_le (attr x k) (attr y k) (f y j), i.0), (distinct_cons k x xs).1 (λ y j e. lt_ne (attr x k) (attr y k) (f y j) (sym e), i.1)),
  λ q. let a = (ascending_cons k x xs).0 q.0 in
      let d = (distinct_cons k x xs).0 q.1 in
      (and_iff (all (λ y. lt_z (attr x k) (attr y k)) xs) (rising k xs)).1 ((all_in (λ y. lt_z (attr x k) (attr y k)) xs).1 (λ y j. le_ne_lt (attr x k) (attr y k) (a.0 y j) (d.0 y j)), (rising_iff k xs).1 (a.1, d.1)),
)
