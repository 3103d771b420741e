-- What expressions and writes make of values in range is in range. Assumes nothing.
use Rattle.std.proofs.Common.{◌≡◌, ℕ, zero, suc, Bool, true, false, cond, not, ltb, List, [], ◌∷◌, map, length, ℤ, pos, refl, subst, inl, inr}
use mathlib.Core.Option.{Option, none, some}
use Rattle.meaning.specs.Values.{bind, numbered, first, all, in_range, within, Op, sub, exact, operate}
use Rattle.meaning.specs.Syntax.{Expression, num, var, att, head, get, op, neg, Write, insert, update, delete}
use Rattle.meaning.specs.Evaluation.{Row, attr, alter, Env, value, truth, values, cut}
use Rattle.meaning.specs.Schema.{Shape, Schema, key_of}
use Rattle.meaning.specs.Tables.{Table, among, in_order, Case, begun}
use Rattle.meaning.specs.Writes.{altered, left}
use Rattle.meaning.specs.Ranges.{row_in_range, exp_in_range, cond_in_range, write_in_range, TableInRange}
use Rattle.meaning.proofs.Basics.{some_inj, none_some, and_iff, bind_some}
use Rattle.meaning.proofs.Members.{all_in}
use Rattle.meaning.proofs.Rows.{among_in, kept_from, changed_from}

-- every value of a row is in range
abbrev pub Ranged : Row → Type 0
Ranged r = all in_range r ≡ true

-- ---- rows

attr_ranged : (r : Row) (k : ℕ) → Ranged r → in_range (attr r k) ≡ true
attr_ranged [] k h = refl
attr_ranged (a ∷ r) zero h = ((and_iff (in_range a) (all in_range r)).0 h).0
attr_ranged (a ∷ r) (suc k) h = attr_ranged r k ((and_iff (in_range a) (all in_range r)).0 h).1

alter_ranged : (r : Row) (k : ℕ) (z : ℤ) → Ranged r → in_range z ≡ true → Ranged (alter r k z)
alter_ranged [] zero z h i = (and_iff (in_range z) true).1 (i, refl)
alter_ranged [] (suc k) z h i = alter_ranged [] k z refl i
alter_ranged (a ∷ r) zero z h i = (and_iff (in_range z) (all in_range r)).1 (i, ((and_iff (in_range a) (all in_range r)).0 h).1)
alter_ranged (a ∷ r) (suc k) z h i = let q = (and_iff (in_range a) (all in_range r)).0 h in (and_iff (in_range a) (all in_range (alter r k z))).1 (q.0, alter_ranged r k z q.1 i)

cut_ranged : (n : ℕ) (r : Row) → Ranged r → Ranged (cut n r)
cut_ranged zero r h = refl
cut_ranged (suc n) [] h = cut_ranged n [] refl
cut_ranged (suc n) (a ∷ r) h = let q = (and_iff (in_range a) (all in_range r)).0 h in (and_iff (in_range a) (all in_range (cut n r))).1 (q.0, cut_ranged n r q.1)

-- ---- expressions

within_ranged : (z w : ℤ) → within z ≡ some w → in_range w ≡ true
within_ranged z w e = go (in_range z) refl e
  where
    go : (b : Bool) → in_range z ≡ b → cond b (some z) none ≡ some w → in_range w ≡ true
    go true i q = subst (λ x. in_range x ≡ true) (some_inj q) i
    go false i q = absurd (none_some q)

operate_ranged : (o : Op) (a b w : ℤ) → operate o a b ≡ some w → in_range w ≡ true
operate_ranged o a b w e = let u = bind_some (exact o a b) within w e in within_ranged u.0 w u.2

first_ranged : (l : List ℤ) (z : ℤ) → all in_range l ≡ true → first l ≡ some z → in_range z ≡ true
first_ranged [] z h e = absurd (none_some e)
first_ranged (a ∷ l) z h e = subst (λ x. in_range x ≡ true) (some_inj e) ((and_iff (in_range a) (all in_range l)).0 h).0

got_ranged : (o : Option Row) (k : ℕ) (z : ℤ) → row_in_range o ≡ true → bind o (λ a. some (attr a k)) ≡ some z → in_range z ≡ true
got_ranged none k z h e = absurd (none_some e)
got_ranged (some r) k z h e = subst (λ x. in_range x ≡ true) (some_inj e) (attr_ranged r k h)

-- the value of an expression is in range, if the values of its variables and of the row at hand are
pub value_ranged : (η : Env ℕ ℕ ℕ) (ro : Option Row) (e : Expression ℕ ℕ ℕ) (z : ℤ) → exp_in_range η e ≡ true → row_in_range ro ≡ true → value η ro e ≡ some z → in_range z ≡ true
value_ranged η ro (num a) z h r e = subst (λ x. in_range x ≡ true) (some_inj e) h
value_ranged η ro (var x) z h r e = subst (λ x. in_range x ≡ true) (some_inj e) h
value_ranged η ro (att k) z h r e = got_ranged ro k z r e
value_ranged η ro (head x) z h r e = first_ranged (η.list x) z h e
value_ranged η ro (get v k) z h r e = got_ranged (η.row v) k z h e
value_ranged η ro (op o a b) z h r e =
    let u = bind_some (value η ro a) _ z e in
    let v = bind_some (value η ro b) _ z u.2 in
    operate_ranged o u.0 v.0 z v.2
value_ranged η ro (neg a) z h r e = let u = bind_some (value η ro a) _ z e in operate_ranged sub (pos 0) u.0 z u.2

values_ranged : (η : Env ℕ ℕ ℕ) (es : List (Expression ℕ ℕ ℕ)) (r : Row) → all (exp_in_range η) es ≡ true → values η es ≡ some r → Ranged r
values_ranged η [] r h e = subst Ranged (some_inj e) refl
values_ranged η (x ∷ es) r h e =
    let q = (and_iff (exp_in_range η x) (all (exp_in_range η) es)).0 h in
    let u = bind_some (value η none x) _ r e in
    let v = bind_some (values η es) _ r u.2 in
    subst Ranged (some_inj v.2) ((and_iff (in_range u.0) (all in_range v.0)).1 (value_ranged η none x u.0 q.0 refl u.1, values_ranged η es v.0 q.1 v.1))

-- ---- tables

among_ranged : (k : ℕ) (a : Row) (T : Table) → Ranged a → TableInRange T → TableInRange (among k a T)
among_ranged k a T h t = (all_in (all in_range) (among k a T)).1 (λ r i. elim ((among_in k a T r).0 i) [ inl e ↦ subst Ranged e h | inr j ↦ (all_in (all in_range) T).0 t r j ])

pub left_ranged : (S : Schema) (R : ℕ) (η : Env ℕ ℕ ℕ) (w : Write ℕ ℕ ℕ) (T X : Table) → write_in_range η w ≡ true → left S R η w T ≡ some X → TableInRange T → TableInRange X
left_ranged S R η (insert t es) T X h m o = let u = bind_some (values η es) _ X m in go u.0 (values_ranged η es u.0 h u.1) (ltb (length T) R) u.2
  where
    go : (r : Row) → Ranged r → (b : Bool) → cond b (some (among (key_of S t) r T)) none ≡ some X → TableInRange X
    go r i true z = subst TableInRange (some_inj z) (among_ranged (key_of S t) r T i o)
    go r i false z = absurd (none_some z)
left_ranged S R η (update t k e c) T X h m o =
    (all_in (all in_range) X).1 (λ x i.
    let v = changed_from (key_of S t) (altered k (λ r. value η (some r) e) (λ r. truth η (some r) c)) T X m x i in
    let u = bind_some (truth η (some v.0) c) _ x v.2 in
    go v.0 x ((all_in (all in_range) T).0 o v.0 v.1) u.0 u.2)
  where
    go : (r x : Row) → Ranged r → (b : Bool) → cond b (bind (value η (some r) e) (λ z. some (alter r k z))) (some r) ≡ some x → Ranged x
    go r x i true z =
        let y = bind_some (value η (some r) e) _ x z in
        subst Ranged (some_inj y.2) (alter_ranged r k y.0 i (value_ranged η (some r) e y.0 ((and_iff (exp_in_range η e) (cond_in_range η c)).0 h).0 i y.1))
    go r x i false z = subst Ranged (some_inj z) i
left_ranged S R η (delete t c) T X h m o = (all_in (all in_range) X).1 (λ x i. (all_in (all in_range) T).0 o x (kept_from (λ r. bind (truth η (some r) c) (λ b. some (not b))) T X m x i))

in_order_ranged : (k n : ℕ) (rs : List Row) → all (all in_range) rs ≡ true → TableInRange (in_order k (map (cut n) rs))
in_order_ranged k n [] h = refl
in_order_ranged k n (r ∷ rs) h =
    let q = (and_iff (all in_range r) (all (all in_range) rs)).0 h in
    among_ranged k (cut n r) (in_order k (map (cut n) rs)) (cut_ranged n r q.0) (in_order_ranged k n rs q.1)

pub begun_ranged : (S : Schema) (κ : Case) (t : ℕ) → all (all in_range) (κ.rows t) ≡ true → TableInRange (begun S κ t)
begun_ranged S κ t h = go (numbered S.tables t)
  where
    go : (o : Option Shape) → TableInRange (elim o [ none ↦ [] | some s ↦ in_order s.key (map (cut s.width) (κ.rows t)) ])
    go none = refl
    go (some s) = in_order_ranged s.key s.width (κ.rows t) h
