-- Judging a list that is drawn in order tells whether it is satisfied. Assumes nothing.
use Rattle.std.proofs.Common.{◌≡◌, ℕ, zero, suc, ◌+◌, Bool, true, false, cond, leb, ◌↔◌, List, [], ◌∷◌, ◌++◌, map, length, take, sym, refl, ap, ◌∙◌, subst, ap₂, append_assoc, arith}
use mathlib.Core.Logic.Iff
use mathlib.Core.Option.{Option, none, some}
use Rattle.meaning.specs.Values.{bind, nth, same_b}
use Rattle.meaning.specs.Syntax.{Mark}
use Rattle.meaning.specs.Schema.{Model, Schema, ref_at, refs_of, checks_of, up_from, key_of, tables_of}
use Rattle.meaning.specs.Tables.{Case, distinct, finds, keeps}
use Rattle.meaning.specs.Records.{Symbol, table, Fact, ref, check, Record, def_i, def_l, def_t, fact}
use Rattle.meaning.specs.Conditions.{drawn, laws_of, joined, symbols, opening, conditions}
use Rattle.meaning.specs.Truth.{Valuation, put_i, put_l, put_t, table_of, int_is, list_is, table_is, holds, True, AllTrue, Satisfies, FirstNotTrue, judgement, nothing, judged, placed, false_from}
use Rattle.meaning.proofs.Basics.{made_iff, some_iff, some_inj, none_some, false_true}
use Rattle.meaning.proofs.Meaning.{AgreeTo, FixedTo, SatTo, sat_int, sat_list, sat_table, sat_fact, Ordered}
use Rattle.meaning.proofs.Opening.{whole_list, stable_start}

same_iff : {A : Type 0} (o : Option Bool) (b : Bool) (x : A) (P : A → Type 0) → ((y : A) × (bind o (λ c. cond (same_b b c) (some x) none) ≡ some y) × P y) ↔ ((o ≡ some b) × P x)
same_iff none b x P = (λ q. absurd (none_some q.1), λ q. absurd (none_some q.0))
same_iff (some true) true x P = (λ q. (refl, subst P (sym (some_inj q.1)) q.2), λ q. (x, refl, q.1))
same_iff (some true) false x P = (λ q. absurd (none_some q.1), λ q. absurd (false_true (sym (some_inj q.0))))
same_iff (some false) true x P = (λ q. absurd (none_some q.1), λ q. absurd (false_true (some_inj q.0)))
same_iff (some false) false x P = (λ q. (refl, subst P (sym (some_inj q.1)) q.2), λ q. (x, refl, q.1))

module _ (S : Schema) (R : ℕ) (κ : Case) where
  none_bump : (o : Option ℕ) → (bind o (λ k. some (suc k)) ≡ none) ↔ (o ≡ none)
  none_bump none = (λ q. refl, λ q. refl)
  none_bump (some k) = (λ q. absurd (none_some (sym q)), λ q. absurd (none_some (sym q)))

  -- all is true: the first record, and the rest
  true_first : (V : Valuation) (r : Record) (rs : List Record) → (false_from S R κ V (r ∷ rs) ≡ none) ↔ ((V' : Valuation) × (judged S R κ V r ≡ some V') × (false_from S R κ V' rs ≡ none))
  true_first V r rs = go (judged S R κ V r)
    where
      go : (o : Option Valuation) → (placed S R κ o (λ V'. false_from S R κ V' rs) ≡ none) ↔ ((V' : Valuation) × (o ≡ some V') × (false_from S R κ V' rs ≡ none))
      go none = (λ q. absurd (none_some (sym q)), λ q. absurd (none_some q.1))
      go (some V') = (λ q. (V', refl, (none_bump _).0 q), λ q. (none_bump _).1 (subst (λ W. false_from S R κ W rs ≡ none) (sym (some_inj q.1)) q.2))

  judge_sat : (rs : List Record) (i l t : ℕ) → Ordered S R κ i l t rs → (V : Valuation) → (false_from S R κ V rs ≡ none) ↔ SatTo S R κ i l t V rs
  judge_sat [] i l t o V = (λ q. (V, record { ints = λ m h. refl; lists = λ m h. refl; tables = λ m h. refl }, tt), λ s. refl)
  judge_sat (def_i n e ∷ rs) i l t o V =
      Iff.trans (true_first V (def_i n e) rs) (Iff.trans (made_iff (int_is S R κ V e) (put_i V n) (λ W. false_from S R κ W rs ≡ none))
      (subst (λ n. ((z : _) × (int_is S R κ V e ≡ some z) × (false_from S R κ (put_i V n z) rs ≡ none)) ↔ SatTo S R κ i l t V (def_i n e ∷ rs)) (sym o.0)
      (Iff.trans (some_iff _ _ _ _ refl (λ z. judge_sat rs (suc i) l t o.2 (put_i V (suc i) z))) (Iff.symm (sat_int S R κ i l t V rs e o.1)))))
  judge_sat (def_l n e ∷ rs) i l t o V =
      Iff.trans (true_first V (def_l n e) rs) (Iff.trans (made_iff (list_is S R κ V e) (put_l V n) (λ W. false_from S R κ W rs ≡ none))
      (subst (λ n. ((z : _) × (list_is S R κ V e ≡ some z) × (false_from S R κ (put_l V n z) rs ≡ none)) ↔ SatTo S R κ i l t V (def_l n e ∷ rs)) (sym o.0)
      (Iff.trans (some_iff _ _ _ _ refl (λ z. judge_sat rs i (suc l) t o.2 (put_l V (suc l) z))) (Iff.symm (sat_list S R κ i l t V rs e o.1)))))
  judge_sat (def_t n e ∷ rs) i l t o V =
      Iff.trans (true_first V (def_t n e) rs) (Iff.trans (made_iff (table_is S R κ V e) (put_t V n) (λ W. false_from S R κ W rs ≡ none))
      (subst (λ n. ((z : _) × (table_is S R κ V e ≡ some z) × (false_from S R κ (put_t V n z) rs ≡ none)) ↔ SatTo S R κ i l t V (def_t n e ∷ rs)) (sym o.0)
      (Iff.trans (some_iff _ _ _ _ refl (λ z. judge_sat rs i l (suc t) o.2 (put_t V (suc t) z))) (Iff.symm (sat_table S R κ i l t V rs e o.1)))))
  judge_sat (fact b f ∷ rs) i l t o V =
      Iff.trans (true_first V (fact b f) rs) (Iff.trans (same_iff (holds S R κ V f) b V (λ W. false_from S R κ W rs ≡ none))
      (Iff.trans (Iff.and (λ x. x, λ x. x) (judge_sat rs i l t o.1 V)) (Iff.symm (sat_fact S R κ i l t V rs b f o.0))))

  ordered_take : (k : ℕ) (rs : List Record) (i l t : ℕ) → Ordered S R κ i l t rs → Ordered S R κ i l t (take k rs)
  ordered_take zero rs i l t o = tt
  ordered_take (suc k) [] i l t o = tt
  ordered_take (suc k) (def_i n e ∷ rs) i l t o = (o.0, o.1, ordered_take k rs (suc i) l t o.2)
  ordered_take (suc k) (def_l n e ∷ rs) i l t o = (o.0, o.1, ordered_take k rs i (suc l) t o.2)
  ordered_take (suc k) (def_t n e ∷ rs) i l t o = (o.0, o.1, ordered_take k rs i l (suc t) o.2)
  ordered_take (suc k) (fact b f ∷ rs) i l t o = (o.0, ordered_take k rs i l t o.1)

  -- the first record that is not true: those before it are, and those up to it are not
  first_is : (rs : List Record) (V : Valuation) (k : ℕ) → false_from S R κ V rs ≡ some k → (false_from S R κ V (take k rs) ≡ none) × (false_from S R κ V (take (suc k) rs) ≡ none → ⊥)
  first_is [] V k e = absurd (none_some e)
  first_is (r ∷ rs) V k e = go (first_is rs) (judged S R κ V r) refl e
    where
      go : ((V : Valuation) (k : ℕ) → false_from S R κ V rs ≡ some k → (false_from S R κ V (take k rs) ≡ none) × (false_from S R κ V (take (suc k) rs) ≡ none → ⊥)) →
          (o : Option Valuation) → judged S R κ V r ≡ o → placed S R κ o (λ V'. false_from S R κ V' rs) ≡ some k →
          (false_from S R κ V (take k (r ∷ rs)) ≡ none) × (false_from S R κ V (take (suc k) (r ∷ rs)) ≡ none → ⊥)
      go rec none q z =
          subst (λ k. (false_from S R κ V (take k (r ∷ rs)) ≡ none) × (false_from S R κ V (take (suc k) (r ∷ rs)) ≡ none → ⊥)) (some_inj z)
          (refl, λ y. let x = (true_first V r (take 0 rs)).0 y in none_some (sym q ∙ x.1))
      go rec (some V') q z = inner (false_from S R κ V' rs) refl z
        where
          inner : (m : Option ℕ) → false_from S R κ V' rs ≡ m → bind m (λ j. some (suc j)) ≡ some k →
              (false_from S R κ V (take k (r ∷ rs)) ≡ none) × (false_from S R κ V (take (suc k) (r ∷ rs)) ≡ none → ⊥)
          inner none y x = absurd (none_some x)
          inner (some j) y x =
              let f = rec V' j y in
              subst (λ k. (false_from S R κ V (take k (r ∷ rs)) ≡ none) × (false_from S R κ V (take (suc k) (r ∷ rs)) ≡ none → ⊥)) (some_inj x) (
                (true_first V r (take j rs)).1 (V', q, f.0),
                λ w. let u = (true_first V r (take (suc j) rs)).0 w in f.1 (subst (λ W. false_from S R κ W (take (suc j) rs) ≡ none) (some_inj (sym u.1 ∙ q)) u.2),
              )

  -- ---- the opening is in order

  -- facts alone, which rest on the symbols so far
  abbrev Facts : (i l t : ℕ) → List Record → Type 0
  Facts i l t [] = Unit {0}
  Facts i l t (def_i n e ∷ rs) = ⊥
  Facts i l t (def_l n e ∷ rs) = ⊥
  Facts i l t (def_t n e ∷ rs) = ⊥
  Facts i l t (fact b f ∷ rs) = FixedTo i l t (λ V. holds S R κ V f) × Facts i l t rs

  facts_then : (i l t : ℕ) (xs ys : List Record) → Facts i l t xs → Ordered S R κ i l t ys → Ordered S R κ i l t (xs ++ ys)
  facts_then i l t [] ys f o = o
  facts_then i l t (def_i n e ∷ xs) ys f o = absurd f
  facts_then i l t (def_l n e ∷ xs) ys f o = absurd f
  facts_then i l t (def_t n e ∷ xs) ys f o = absurd f
  facts_then i l t (fact b g ∷ xs) ys f o = (f.0, facts_then i l t xs ys f.1 o)

  facts_append : (i l t : ℕ) (xs ys : List Record) → Facts i l t xs → Facts i l t ys → Facts i l t (xs ++ ys)
  facts_append i l t [] ys f o = o
  facts_append i l t (def_i n e ∷ xs) ys f o = absurd f
  facts_append i l t (def_l n e ∷ xs) ys f o = absurd f
  facts_append i l t (def_t n e ∷ xs) ys f o = absurd f
  facts_append i l t (fact b g ∷ xs) ys f o = (f.0, facts_append i l t xs ys f.1 o)

  facts_map : (i l t : ℕ) (f : ℕ → Fact) → ((n : ℕ) → FixedTo i l t (λ V. holds S R κ V (f n))) → (ns : List ℕ) → Facts i l t (map (λ n. fact true (f n)) ns)
  facts_map i l t f h [] = tt
  facts_map i l t f h (n ∷ ns) = (h n, facts_map i l t f h ns)

  facts_joined : (i l t : ℕ) (f : ℕ → List Record) → ((n : ℕ) → Facts i l t (f n)) → (ns : List ℕ) → Facts i l t (joined f ns)
  facts_joined i l t f h [] = tt
  facts_joined i l t f h (n ∷ ns) = facts_append i l t (f n) (joined f ns) (h n) (facts_joined i l t f h ns)

  defs_then : {A : Type 0} (i l t n : ℕ) (xs : List A) (ys : List Record) → n ≡ t + length xs → Ordered S R κ i l n ys → Ordered S R κ i l t (map (λ t. def_t t (table t)) (up_from (suc t) xs) ++ ys)
  defs_then i l t n [] ys e o = let q : n ≡ t = omega arith in subst (λ n. Ordered S R κ i l n ys) q o
  defs_then i l t n (x ∷ xs) ys e o = (refl, λ V V' a. refl, defs_then i l (suc t) n xs ys (omega arith) o)

  laws_facts : (t : ℕ) → Facts 0 0 (length S.tables) (laws_of S (symbols S).held.tables.now t)
  laws_facts t =
      let now : ℕ → Symbol = (symbols S).held.tables.now in
      let same : (u : ℕ) (V V' : Valuation) → AgreeTo 0 0 (length S.tables) V V' → table_of V (now u) ≡ table_of V' (now u) = λ u V V' a. ap (λ s. s.tables.now u) (stable_start S V V' a) in (
        λ V V' a. ap (λ X. some (leb (length X) R)) (same t V V' a),
        (
          λ V V' a. ap (λ X. some (distinct (key_of S t) X)) (same t V V' a),
          facts_append 0 0 (length S.tables) (map (λ n. fact true (ref n (now t) (now (ref_at S n).to))) (refs_of S t)) (map (λ n. fact true (check n (now t))) (checks_of S t))
              (facts_map 0 0 (length S.tables) (λ n. ref n (now t) (now (ref_at S n).to)) (λ n V V' a. ap₂ (λ X Y. some (finds S n X Y)) (same t V V' a) (same (ref_at S n).to V V' a)) (refs_of S t))
              (facts_map 0 0 (length S.tables) (λ n. check n (now t)) (λ n V V' a. ap (λ X. some (keeps S n X)) (same t V V' a)) (checks_of S t)),
        ),
      )

  opening_ordered : (rs : List Record) → Ordered S R κ 0 0 (length S.tables) rs → Ordered S R κ 0 0 0 (opening S ++ rs)
  opening_ordered rs o =
      rw append_assoc
      (defs_then 0 0 0 (length S.tables) S.tables (joined (laws_of S (symbols S).held.tables.now) (tables_of S) ++ rs) (omega arith)
      (facts_then 0 0 (length S.tables) (joined (laws_of S (symbols S).held.tables.now) (tables_of S)) rs (facts_joined 0 0 (length S.tables) (laws_of S (symbols S).held.tables.now) laws_facts (tables_of S)) o))

  from_nothing : (rs : List Record) → SatTo S R κ 0 0 0 nothing rs ↔ Satisfies S R κ rs
  from_nothing rs = (λ s. (s.0, s.2), λ s. (s.0, record { ints = λ m h. absurd (omega arith); lists = λ m h. absurd (omega arith); tables = λ m h. absurd (omega arith) }, s.1))

  -- the records up to k and the next
  take_next : (rs : List Record) (k : ℕ) (r : Record) → nth rs k ≡ some r → (V : Valuation) → AllTrue S R κ V (take k rs) → True S R κ V r → AllTrue S R κ V (take (suc k) rs)
  take_next [] k r e V h t = absurd (none_some e)
  take_next (x ∷ rs) zero r e V h t = (subst (True S R κ V) (sym (some_inj e)) t, tt)
  take_next (x ∷ rs) (suc k) r e V h t = (h.0, take_next rs k r e V h.1 t)

  -- the place of a record is a record's
  false_at : (rs : List Record) (V : Valuation) (k : ℕ) → false_from S R κ V rs ≡ some k → (r : Record) × (nth rs k ≡ some r)
  false_at [] V k e = absurd (none_some e)
  false_at (r ∷ rs) V zero e = (r, refl)
  false_at (r ∷ rs) V (suc k) e = go (λ V'. false_at rs V' k) (judged S R κ V r) e
    where
      inner : (V' : Valuation) → (false_from S R κ V' rs ≡ some k → (r' : Record) × (nth rs k ≡ some r')) → (m : Option ℕ) → false_from S R κ V' rs ≡ m → bind m (λ j. some (suc j)) ≡ some (suc k) →
          (r' : Record) × (nth rs k ≡ some r')
      inner V' rec none y x = absurd (none_some x)
      inner V' rec (some j) y x = let s : suc j ≡ suc k = some_inj x in let z : j ≡ k = omega arith in rec (y ∙ ap some z)

      go : ((V' : Valuation) → false_from S R κ V' rs ≡ some k → (r' : Record) × (nth rs k ≡ some r')) → (o : Option Valuation) → placed S R κ o (λ V'. false_from S R κ V' rs) ≡ some (suc k) → (r' : Record) × (nth rs k ≡ some r')
      go rec none q = let z : 0 ≡ suc k = some_inj q in absurd (omega arith)
      go rec (some V') q = inner V' (rec V') (false_from S R κ V' rs) refl q

  module _ (rs : List Record) (o : Ordered S R κ 0 0 0 rs) where
    judging_all : (false_from S R κ nothing rs ≡ none) ↔ Satisfies S R κ rs
    judging_all = Iff.trans (judge_sat rs 0 0 0 o nothing) (from_nothing rs)

  judging_first : (rs : List Record) → Ordered S R κ 0 0 0 rs → (k : ℕ) → false_from S R κ nothing rs ≡ some k → FirstNotTrue S R κ rs k
  judging_first rs o k e =
      let f = first_is rs nothing k e in
      let r = false_at rs nothing k e in (
        r.0,
        r.1,
        (judging_all (take k rs) (ordered_take k rs 0 0 0 o)).0 f.0,
        λ V h t. f.1 ((judging_all (take (suc k) rs) (ordered_take (suc k) rs 0 0 0 o)).1 (V, take_next rs k r.0 r.1 V h t)),
      )

-- the number of a record is one more than its place
number_none : (o : Option ℕ) → (◌≡◌ {A = ℕ} (elim o [ none ↦ 0 | some k ↦ suc k ]) 0) ↔ (o ≡ none)
number_none none = (λ q. refl, λ q. refl)
number_none (some k) = (λ q. absurd (omega arith), λ q. absurd (none_some (sym q)))

number_some : (o : Option ℕ) (k : ℕ) → ◌≡◌ {A = ℕ} (elim o [ none ↦ 0 | some k ↦ suc k ]) (suc k) → o ≡ some k
number_some none k q = absurd (omega arith)
number_some (some j) k q = let e : j ≡ k = omega arith in ap some e

module _ (M : Model) (R : ℕ) (κ : Case) (p : List Mark) (rs : List Record) (e : conditions M p ≡ drawn rs) where
  list_ordered : Ordered M.schema R κ 0 0 0 rs
  list_ordered = let w = whole_list M R κ p rs e in subst (λ xs. Ordered M.schema R κ 0 0 0 xs) (sym w.1) (opening_ordered M.schema R κ w.0 w.2.0)

  pub judged_satisfied : (judgement M.schema R κ rs ≡ 0) ↔ Satisfies M.schema R κ rs
  judged_satisfied = Iff.trans (number_none (false_from M.schema R κ nothing rs)) (judging_all M.schema R κ rs list_ordered)

  pub judged_first : (k : ℕ) → judgement M.schema R κ rs ≡ suc k → FirstNotTrue M.schema R κ rs k
  judged_first k q = judging_first M.schema R κ rs list_ordered k (number_some (false_from M.schema R κ nothing rs) k q)
