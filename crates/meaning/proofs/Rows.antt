-- The rows of a table as members, and of what a write makes of it. Assumes nothing.
use Rattle.std.proofs.Common.{◌≡◌, ℕ, zero, suc, ◌≤◌, Bool, true, false, cond, not, ◌&&◌, ◌||◌, ltb, ◌⊎◌, ◌↔◌, List, [], ◌∷◌, length, ℤ, pos, negsuc, sym, refl, ap, ◌∙◌, subst, ap₂, inl, inr, arith, tests}
use mathlib.Core.Logic.Iff
use mathlib.Core.Option.{Option, none, some}
use lib.Signed.{le_z}
use Rattle.meaning.specs.Values.{bind, all, eq_z}
use Rattle.meaning.specs.Syntax.{Write, insert, update, delete, target, Exception}
use Rattle.meaning.specs.Evaluation.{Row, attr, alter, Env, value, truth, values}
use Rattle.meaning.specs.Schema.{Schema, key_of}
use Rattle.meaning.specs.Tables.{Table, among, in_order, has, distinct, ascending}
use Rattle.meaning.specs.Writes.{left, kept, changed, holds_one, altered, broken}
use Rattle.meaning.proofs.Basics.{some_inj, none_some, bind_some, false_true, and_iff}
use Rattle.meaning.proofs.Members.{In, all_in, any_in}

-- ---- values

pub eq_z_is : (a b : ℤ) → (eq_z a b ≡ true) ↔ (a ≡ b)
eq_z_is (pos a) (pos b) = (λ q. grind (arith, tests), λ q. grind (arith, tests))
eq_z_is (pos a) (negsuc b) = (λ q. absurd (false_true q), λ q. cc)
eq_z_is (negsuc a) (pos b) = (λ q. absurd (false_true q), λ q. cc)
eq_z_is (negsuc a) (negsuc b) = (λ q. grind (arith, tests), λ q. grind (arith, tests))

pub has_in : (k : ℕ) (T : Table) (z : ℤ) → (has k T z ≡ true) ↔ ((r : Row) × In r T × (attr r k ≡ z))
has_in k T z = (
  λ q. let h = (any_in (λ r. eq_z (attr r k) z) T).0 q in (h.0, h.1, (eq_z_is (attr h.0 k) z).0 h.2),
  λ q. (any_in (λ r. eq_z (attr r k) z) T).1 (q.0, q.1, (eq_z_is (attr q.0 k) z).1 q.2),
)

pub alter_same : (r : Row) (k : ℕ) (z : ℤ) → attr (alter r k z) k ≡ z
alter_same [] zero z = refl
alter_same [] (suc k) z = alter_same [] k z
alter_same (a ∷ r) zero z = refl
alter_same (a ∷ r) (suc k) z = alter_same r k z

pub alter_other : (r : Row) (k j : ℕ) (z : ℤ) → (j ≡ k → ⊥) → attr (alter r k z) j ≡ attr r j
alter_other [] zero zero z h = absurd (h refl)
alter_other [] zero (suc j) z h = refl
alter_other [] (suc k) zero z h = refl
alter_other [] (suc k) (suc j) z h = alter_other [] k j z (λ e. h (ap suc e))
alter_other (a ∷ r) zero zero z h = absurd (h refl)
alter_other (a ∷ r) zero (suc j) z h = refl
alter_other (a ∷ r) (suc k) zero z h = refl
alter_other (a ∷ r) (suc k) (suc j) z h = alter_other r k j z (λ e. h (ap suc e))

-- ---- a row among others

pub among_in : (k : ℕ) (a : Row) (T : Table) (r : Row) → In r (among k a T) ↔ ((a ≡ r) ⊎ In r T)
among_in k a [] r = (λ h. h, λ h. h)
among_in k a (x ∷ xs) r = go (le_z (attr a k) (attr x k)) (among_in k a xs r)
  where
    go : (b : Bool) → In r (among k a xs) ↔ ((a ≡ r) ⊎ In r xs) → In r (cond b (a ∷ (x ∷ xs)) (x ∷ among k a xs)) ↔ ((a ≡ r) ⊎ In r (x ∷ xs))
    go true rec = (λ h. h, λ h. h)
    go false rec = (
      λ h. elim h [ inl e ↦ inr (inl e) | inr i ↦ elim (rec.0 i) [ inl e ↦ inl e | inr j ↦ inr (inr j) ] ],
      λ h. elim h [ inl e ↦ inr (rec.1 (inl e)) | inr i ↦ elim i [ inl e ↦ inl e | inr j ↦ inr (rec.1 (inr j)) ] ],
    )

pub among_length : (k : ℕ) (a : Row) (T : Table) → length (among k a T) ≡ suc (length T)
among_length k a [] = refl
among_length k a (x ∷ xs) = go (le_z (attr a k) (attr x k)) (among_length k a xs)
  where
    go : (b : Bool) → length (among k a xs) ≡ suc (length xs) → length (cond b (a ∷ (x ∷ xs)) (x ∷ among k a xs)) ≡ suc (suc (length xs))
    go true rec = refl
    go false rec = ap suc rec

-- no row has the key of x
abbrev pub Apart : ℕ → Row → Table → Type 0
Apart k x T = (r : Row) → In r T → attr r k ≡ attr x k → ⊥

pub distinct_cons : (k : ℕ) (x : Row) (T : Table) → (distinct k (x ∷ T) ≡ true) ↔ (Apart k x T × (distinct k T ≡ true))
distinct_cons k x T = go (has k T (attr x k)) refl
  where
    go : (b : Bool) → has k T (attr x k) ≡ b → ((not b && distinct k T) ≡ true) ↔ (Apart k x T × (distinct k T ≡ true))
    go true e = (λ q. absurd (false_true q), λ q. let h = (has_in k T (attr x k)).0 e in absurd (q.0 h.0 h.1 h.2))
    go false e = (λ q. (λ r i z. false_true (sym e ∙ (has_in k T (attr x k)).1 (r, i, z)), q), λ q. q.1)

pub distinct_among : (k : ℕ) (a : Row) (T : Table) → Apart k a T → distinct k T ≡ true → distinct k (among k a T) ≡ true
distinct_among k a [] h d = refl
distinct_among k a (x ∷ xs) h d = go (le_z (attr a k) (attr x k)) (distinct_among k a xs (λ r i. h r (inr i)) ((distinct_cons k x xs).0 d).1)
  where
    go : (b : Bool) → distinct k (among k a xs) ≡ true → distinct k (cond b (a ∷ (x ∷ xs)) (x ∷ among k a xs)) ≡ true
    go true rec = (distinct_cons k a (x ∷ xs)).1 (h, d)
    go false rec = (distinct_cons k x (among k a xs)).1 (
      λ r i z. elim ((among_in k a xs r).0 i) [ inl e ↦ h x (inl refl) (sym z ∙ ap (λ y. attr y k) (sym e)) | inr j ↦ ((distinct_cons k x xs).0 d).0 r j z ],
      rec,
    )

-- ---- rows kept

module _ (c : Row → Option Bool) where
  -- the first row and the others
  kept_cons : (x : Row) (xs X : Table) → kept c (x ∷ xs) ≡ some X → (b : Bool) × (Y : Table) × (c x ≡ some b) × (kept c xs ≡ some Y) × (cond b (x ∷ Y) Y ≡ X)
  kept_cons x xs X e =
      let u = bind_some (c x) _ X e in
      let v = bind_some (kept c xs) _ X u.2 in
      (u.0, v.0, u.1, v.1, some_inj v.2)

  pub kept_from : (T X : Table) → kept c T ≡ some X → (r : Row) → In r X → In r T
  kept_from [] X e r i = subst (In r) (sym (some_inj e)) i
  kept_from (x ∷ xs) X e r i =
      let u = kept_cons x xs X e in
      go u.0 u.1 (kept_from xs u.1 u.3 r) (subst (In r) (sym u.4) i)
    where
      go : (b : Bool) (Y : Table) → (In r Y → In r xs) → In r (cond b (x ∷ Y) Y) → In r (x ∷ xs)
      go true Y rec (inl e) = inl e
      go true Y rec (inr j) = inr (rec j)
      go false Y rec j = inr (rec j)

  pub kept_to : (T X : Table) → kept c T ≡ some X → (r : Row) → In r T → c r ≡ some true → In r X
  kept_to [] X e r i t = absurd i
  kept_to (x ∷ xs) X e r i t =
      let u = kept_cons x xs X e in
      subst (In r) u.4 (go u.0 u.1 u.2 (λ j. kept_to xs u.1 u.3 r j t) i)
    where
      go : (b : Bool) (Y : Table) → c x ≡ some b → (In r xs → In r Y) → In r (x ∷ xs) → In r (cond b (x ∷ Y) Y)
      go true Y z rec (inl e) = inl e
      go true Y z rec (inr j) = inr (rec j)
      go false Y z rec (inl e) = absurd (false_true (some_inj (sym z ∙ ap c e ∙ t)))
      go false Y z rec (inr j) = rec j

  pub kept_length : (T X : Table) → kept c T ≡ some X → length X ≤ length T
  kept_length [] X e = subst (λ Y. length Y ≤ 0) (some_inj e) (omega arith)
  kept_length (x ∷ xs) X e =
      let u = kept_cons x xs X e in
      subst (λ Y. length Y ≤ suc (length xs)) u.4 (go u.0 u.1 (kept_length xs u.1 u.3))
    where
      go : (b : Bool) (Y : Table) → length Y ≤ length xs → length (cond b (x ∷ Y) Y) ≤ suc (length xs)
      go true Y h = omega arith
      go false Y h = omega arith

  pub kept_distinct : (k : ℕ) (T X : Table) → kept c T ≡ some X → distinct k T ≡ true → distinct k X ≡ true
  kept_distinct k [] X e d = subst (λ Y. distinct k Y ≡ true) (some_inj e) refl
  kept_distinct k (x ∷ xs) X e d =
      let u = kept_cons x xs X e in
      let z = (distinct_cons k x xs).0 d in
      subst (λ Y. distinct k Y ≡ true) u.4 (go u.0 u.1 (λ r i. z.0 r (kept_from xs u.1 u.3 r i)) (kept_distinct k xs u.1 u.3 z.1))
    where
      go : (b : Bool) (Y : Table) → Apart k x Y → distinct k Y ≡ true → distinct k (cond b (x ∷ Y) Y) ≡ true
      go true Y a h = (distinct_cons k x Y).1 (a, h)
      go false Y a h = h

-- ---- rows changed

module _ (key : ℕ) (f : Row → Option Row) where
  changed_cons : (x : Row) (xs X : Table) → changed key f (x ∷ xs) ≡ some X → (q : Row) × (Y : Table) × (f x ≡ some q) × (changed key f xs ≡ some Y) × (among key q Y ≡ X)
  changed_cons x xs X e =
      let u = bind_some (f x) _ X e in
      let v = bind_some (changed key f xs) _ X u.2 in
      (u.0, v.0, u.1, v.1, some_inj v.2)

  pub changed_from : (T X : Table) → changed key f T ≡ some X → (q : Row) → In q X → (r : Row) × In r T × (f r ≡ some q)
  changed_from [] X e q i = absurd (subst (In q) (sym (some_inj e)) i)
  changed_from (x ∷ xs) X e q i =
      let u = changed_cons x xs X e in
      go u.0 u.1 u.2 (changed_from xs u.1 u.3 q) ((among_in key u.0 u.1 q).0 (subst (In q) (sym u.4) i))
    where
      go : (y : Row) (Y : Table) → f x ≡ some y → (In q Y → (r : Row) × In r xs × (f r ≡ some q)) → (y ≡ q) ⊎ In q Y → (r : Row) × In r (x ∷ xs) × (f r ≡ some q)
      go y Y z rec (inl e) = (x, inl refl, z ∙ ap some e)
      go y Y z rec (inr j) = let v = rec j in (v.0, inr v.1, v.2)

  pub changed_to : (T X : Table) → changed key f T ≡ some X → (r : Row) → In r T → (q : Row) × (f r ≡ some q) × In q X
  changed_to [] X e r i = absurd i
  changed_to (x ∷ xs) X e r i =
      let u = changed_cons x xs X e in
      let v = go u.0 u.1 u.2 (changed_to xs u.1 u.3 r) i in
      (v.0, v.1, subst (In v.0) u.4 v.2)
    where
      go : (y : Row) (Y : Table) → f x ≡ some y → (In r xs → (q : Row) × (f r ≡ some q) × In q Y) → In r (x ∷ xs) → (q : Row) × (f r ≡ some q) × In q (among key y Y)
      go y Y z rec (inl e) = (y, ap f (sym e) ∙ z, (among_in key y Y y).1 (inl refl))
      go y Y z rec (inr j) = let v = rec j in (v.0, v.1, (among_in key y Y v.0).1 (inr v.2))

  pub changed_length : (T X : Table) → changed key f T ≡ some X → length X ≡ length T
  changed_length [] X e = sym (ap length (some_inj e))
  changed_length (x ∷ xs) X e =
      let u = changed_cons x xs X e in
      ap length (sym u.4) ∙ among_length key u.0 u.1 ∙ ap suc (changed_length xs u.1 u.3)

  -- where no key changes
  pub changed_distinct : ((r q : Row) → f r ≡ some q → attr q key ≡ attr r key) → (T X : Table) → changed key f T ≡ some X → distinct key T ≡ true → distinct key X ≡ true
  changed_distinct same [] X e d = subst (λ Y. distinct key Y ≡ true) (some_inj e) refl
  changed_distinct same (x ∷ xs) X e d =
      let u = changed_cons x xs X e in
      let z = (distinct_cons key x xs).0 d in
      subst (λ Y. distinct key Y ≡ true) u.4 (distinct_among key u.0 u.1
      (λ q i w. let v = changed_from xs u.1 u.3 q i in z.0 v.0 v.1 (sym (same v.0 q v.2) ∙ w ∙ same x u.0 u.2))
      (changed_distinct same xs u.1 u.3 z.1))

-- ---- rows held, tests passed

pub held_none : (key from : ℕ) (U : Table) (c : Row → Option Bool) (T : Table) → holds_one key from U c T ≡ some false → (r : Row) → In r T → has from U (attr r key) ≡ true → c r ≡ some false
held_none key from U c [] e r i h = absurd i
held_none key from U c (x ∷ xs) e r i h =
    let u = bind_some (c x) _ false e in
    let v = bind_some (holds_one key from U c xs) _ false u.2 in
    go u.0 v.0 u.1 (some_inj v.2) (λ n. held_none key from U c xs (v.1 ∙ ap some n) r) i
  where
    go : (b o : Bool) → c x ≡ some b → ((b && has from U (attr x key)) || o) ≡ false → (o ≡ false → In r xs → has from U (attr r key) ≡ true → c r ≡ some false) → In r (x ∷ xs) → c r ≡ some false
    go true o z w rec (inl e) = absurd (both_ways_or (has from U (attr x key)) o (ap (λ y. has from U (attr y key)) e ∙ h) w)
      where
        both_ways_or : (a o : Bool) → a ≡ true → (a || o) ≡ false → ⊥
        both_ways_or true o p q = false_true (sym q)
        both_ways_or false o p q = false_true p
    go false o z w rec (inl e) = ap c (sym e) ∙ z
    go b o z w rec (inr j) = rec (right (b && has from U (attr x key)) o w) j h
      where
        right : (a o : Bool) → (a || o) ≡ false → o ≡ false
        right true o q = absurd (false_true (sym q))
        right false o q = q

pub tests_pass : (p : Exception → Option Bool) (xs : List Exception) → broken p xs ≡ some none → (x : Exception) → In x xs → p x ≡ some true
tests_pass p [] e x i = absurd i
tests_pass p (y ∷ ys) e x i = let u = bind_some (p y) _ none e in go u.0 u.1 u.2 (λ z. tests_pass p ys z x) i
  where
    go : (b : Bool) → p y ≡ some b → cond b (broken p ys) (some (some y)) ≡ some none → (broken p ys ≡ some none → In x ys → p x ≡ some true) → In x (y ∷ ys) → p x ≡ some true
    go true z w rec (inl q) = ap p (sym q) ∙ z
    go true z w rec (inr j) = rec w j
    go false z w rec j = absurd (none_some (sym (some_inj w)))

-- ---- rows in key order

le_z_turn : (a b : ℤ) → le_z a b ≡ false → le_z b a ≡ true
le_z_turn (pos a) (pos b) e = grind (arith, tests)
le_z_turn (pos a) (negsuc b) e = refl
le_z_turn (negsuc a) (pos b) e = absurd (false_true (sym e))
le_z_turn (negsuc a) (negsuc b) e = grind (arith, tests)

le_z_through : (a b c : ℤ) → le_z a b ≡ true → le_z b c ≡ true → le_z a c ≡ true
le_z_through (pos a) (pos b) (pos c) p q = grind (arith, tests)
le_z_through (pos a) (pos b) (negsuc c) p q = q
le_z_through (pos a) (negsuc b) c p q = absurd (false_true p)
le_z_through (negsuc a) (pos b) (pos c) p q = refl
le_z_through (negsuc a) (pos b) (negsuc c) p q = absurd (false_true q)
le_z_through (negsuc a) (negsuc b) (pos c) p q = refl
le_z_through (negsuc a) (negsuc b) (negsuc c) p q = grind (arith, tests)

-- x comes before every row
abbrev pub Before : ℕ → Row → Table → Type 0
Before k x T = (r : Row) → In r T → le_z (attr x k) (attr r k) ≡ true

pub ascending_cons : (k : ℕ) (x : Row) (T : Table) → (ascending k (x ∷ T) ≡ true) ↔ (Before k x T × (ascending k T ≡ true))
ascending_cons k x T = Iff.trans (and_iff (all (λ q. le_z (attr x k) (attr q k)) T) (ascending k T)) (Iff.and (all_in (λ q. le_z (attr x k) (attr q k)) T) (λ q. q, λ q. q))

pub among_ascending : (k : ℕ) (a : Row) (T : Table) → ascending k T ≡ true → ascending k (among k a T) ≡ true
among_ascending k a [] o = refl
among_ascending k a (x ∷ xs) o = let z = (ascending_cons k x xs).0 o in go (le_z (attr a k) (attr x k)) refl z.0 (among_ascending k a xs z.1)
  where
    go : (b : Bool) → le_z (attr a k) (attr x k) ≡ b → Before k x xs → ascending k (among k a xs) ≡ true → ascending k (cond b (a ∷ (x ∷ xs)) (x ∷ among k a xs)) ≡ true
    go true e f rec = (ascending_cons k a (x ∷ xs)).1 (λ r i. elim i [ inl q ↦ ap (λ y. le_z (attr a k) (attr y k)) (sym q) ∙ e | inr j ↦ le_z_through (attr a k) (attr x k) (attr r k) e (f r j) ], o)
    go false e f rec = (ascending_cons k x (among k a xs)).1 (λ r i. elim ((among_in k a xs r).0 i) [ inl q ↦ ap (λ y. le_z (attr x k) (attr y k)) (sym q) ∙ le_z_turn (attr a k) (attr x k) e | inr j ↦ f r j ], rec)

pub in_order_ascending : (k : ℕ) (T : List Row) → ascending k (in_order k T) ≡ true
in_order_ascending k [] = refl
in_order_ascending k (x ∷ xs) = among_ascending k x (in_order k xs) (in_order_ascending k xs)

pub kept_ascending : (c : Row → Option Bool) (k : ℕ) (T X : Table) → kept c T ≡ some X → ascending k T ≡ true → ascending k X ≡ true
kept_ascending c k [] X e o = subst (λ Y. ascending k Y ≡ true) (some_inj e) refl
kept_ascending c k (x ∷ xs) X e o =
    let u = kept_cons c x xs X e in
    let z = (ascending_cons k x xs).0 o in
    subst (λ Y. ascending k Y ≡ true) u.4 (go u.0 u.1 (λ r i. z.0 r (kept_from c xs u.1 u.3 r i)) (kept_ascending c k xs u.1 u.3 z.1))
  where
    go : (b : Bool) (Y : Table) → Before k x Y → ascending k Y ≡ true → ascending k (cond b (x ∷ Y) Y) ≡ true
    go true Y f h = (ascending_cons k x Y).1 (f, h)
    go false Y f h = h

pub changed_ascending : (key : ℕ) (f : Row → Option Row) (T X : Table) → changed key f T ≡ some X → ascending key X ≡ true
changed_ascending key f [] X e = subst (λ Y. ascending key Y ≡ true) (some_inj e) refl
changed_ascending key f (x ∷ xs) X e =
    let u = changed_cons key f x xs X e in
    subst (λ Y. ascending key Y ≡ true) u.4 (among_ascending key u.0 u.1 (changed_ascending key f xs u.1 u.3))

pub left_ascending : {I L A : Type 0} (S : Schema) (R : ℕ) (η : Env I L A) (w : Write I L A) (T X : Table) → left S R η w T ≡ some X → ascending (key_of S (target w)) T ≡ true → ascending (key_of S (target w)) X ≡ true
left_ascending S R η (insert t es) T X e o = let u = bind_some (values η es) _ X e in go u.0 (ltb (length T) R) u.2
  where
    go : (r : Row) (b : Bool) → cond b (some (among (key_of S t) r T)) none ≡ some X → ascending (key_of S t) X ≡ true
    go r true z = subst (λ Y. ascending (key_of S t) Y ≡ true) (some_inj z) (among_ascending (key_of S t) r T o)
    go r false z = absurd (none_some z)
left_ascending S R η (update t k e c) T X m o = changed_ascending (key_of S t) (altered k (λ r. value η (some r) e) (λ r. truth η (some r) c)) T X m
left_ascending S R η (delete t c) T X m o = kept_ascending (λ r. bind (truth η (some r) c) (λ b. some (not b))) (key_of S t) T X m o

-- two tables in order of distinct keys with the same rows are the same
pub same_rows : (k : ℕ) (A B : Table) → ascending k A ≡ true → ascending k B ≡ true → distinct k A ≡ true → distinct k B ≡ true → ((r : Row) → In r A ↔ In r B) → A ≡ B
same_rows k [] [] oa ob da db f = refl
same_rows k [] (y ∷ ys) oa ob da db f = absurd ((f y).1 (inl refl))
same_rows k (x ∷ xs) [] oa ob da db f = absurd ((f x).0 (inl refl))
same_rows k (x ∷ xs) (y ∷ ys) oa ob da db f =
    let a = (ascending_cons k x xs).0 oa in
    let b = (ascending_cons k y ys).0 ob in
    let c = (distinct_cons k x xs).0 da in
    let d = (distinct_cons k y ys).0 db in
    let e : x ≡ y = heads a.0 b.0 c.0 ((f x).0 (inl refl)) ((f y).1 (inl refl)) in
    ap₂ (λ p q. p ∷ q) e (same_rows k xs ys a.1 b.1 c.1 d.1 (λ r. (
      λ i. elim ((f r).0 (inr i)) [ inl q ↦ absurd (c.0 r i (ap (λ z. attr z k) (sym q ∙ sym e))) | inr j ↦ j ],
      λ i. elim ((f r).1 (inr i)) [ inl q ↦ absurd (d.0 r i (ap (λ z. attr z k) (sym q ∙ e))) | inr j ↦ j ],
    )))
  where
    heads : Before k x xs → Before k y ys → Apart k x xs → In x (y ∷ ys) → In y (x ∷ xs) → x ≡ y
    heads a b c (inl q) j = sym q
    heads a b c (inr i) (inl q) = q
    heads a b c (inr i) (inr j) = absurd (c y j ((eq_z_is (attr y k) (attr x k)).0 ((and_iff _ _).1 (b x i, a y j))))
