-- A write that passes the tests that fit it leaves all tables lawful. Assumes nothing.
use Rattle.std.proofs.Common.{◌≡◌, ℕ, ◌<◌, ◌≤◌, Bool, true, false, cond, not, ◌&&◌, eqb, ltb, leb, ◌↔◌, List, [], ◌∷◌, ◌++◌, map, length, ℤ, sym, refl, ap, ◌∙◌, subst, subst₂, inl, inr, arith, ltb-true, eq-eqb, eqb-true, le-leb, leb-true}
use mathlib.Core.Option.{Option, none, some}
use borrow.Author.Tests.{eqb-false, not-true, not-false}
use Rattle.meaning.specs.Values.{bind, put, all, compares, eq_z}
use Rattle.meaning.specs.Syntax.{Expression, Condition, Write, insert, update, delete, target, Exception, K, F, C, D}
use Rattle.meaning.specs.Evaluation.{Row, attr, alter, Env, value, truth, values}
use Rattle.meaning.specs.Schema.{Ref, Check, Schema, key_of, ref_at, check_at, places, refs_of, checks_of, refs_to, no_check, no_ref}
use Rattle.meaning.specs.Tables.{Table, among, has, distinct, finds, keeps, LawfulTables}
use Rattle.meaning.specs.Writes.{altered, holds_one, left, lost, fitting, passes, broken}
use Rattle.meaning.proofs.Basics.{some_inj, none_some, put_same, and_iff, bind_some, put_other}
use Rattle.meaning.proofs.Lawful.{LawfulTable, EachLawful, lawful_iff}
use Rattle.meaning.proofs.Members.{every_below, below_every, In, Numbered, all_in, every_in, in_left, in_right, place_iff, in_map}
use Rattle.meaning.proofs.Rows.{eq_z_is, has_in, alter_same, alter_other, among_in, among_length, kept_from, kept_to, kept_length, kept_distinct, changed_from, changed_to, changed_length, changed_distinct, held_none, tests_pass}

-- ---- references and checks by their numbers

module _ (S : Schema) (n : ℕ) where
  ref_place : (p : Ref → Bool) → In n (places p 1 S.refs) ↔ ((Numbered S.refs n) × (p (ref_at S n) ≡ true))
  ref_place p = place_iff p no_ref S.refs n

  check_place : (p : Check → Bool) → In n (places p 1 S.checks) ↔ ((Numbered S.checks n) × (p (check_at S n) ≡ true))
  check_place p = place_iff p no_check S.checks n

-- ---- what a write of table t that leaves X has to see to

module _ (S : Schema) (R : ℕ) (T : ℕ → Table) (t : ℕ) (X : Table) where
  -- its own rows keep the laws, and what other tables refer to is still there
  record Safe : Type 0 where
    few : length (T t) ≤ R → length X ≤ R
    apart : distinct (key_of S t) (T t) ≡ true → distinct (key_of S t) X ≡ true
    referring : (n : ℕ) → Numbered S.refs n → (ref_at S n).of ≡ t → finds S n (T t) (T (ref_at S n).to) ≡ true → finds S n X (T (ref_at S n).to) ≡ true
    keeping : (n : ℕ) → Numbered S.checks n → (check_at S n).of ≡ t → keeps S n (T t) ≡ true → keeps S n X ≡ true
    referred : (n : ℕ) → Numbered S.refs n → (ref_at S n).to ≡ t → finds S n (T (ref_at S n).of) (T t) ≡ true → finds S n (T (ref_at S n).of) X ≡ true
    itself : (n : ℕ) → Numbered S.refs n → (ref_at S n).of ≡ t → (ref_at S n).to ≡ t → finds S n X (T t) ≡ true → finds S n X X ≡ true

  module _ (safe : Safe) where
    written_table : LawfulTable S R T t → LawfulTable S R (put T t X) t
    written_table l = record {
      fits = subst (λ Y. leb (length Y) R ≡ true) (sym here) (le-leb (length X) R (safe.few (leb-true _ _ l.fits)));
      keyed = subst (λ Y. distinct (key_of S t) Y ≡ true) (sym here) (safe.apart l.keyed);
      found = (every_in _ (refs_of S t)).1 (λ n i. subst (λ Y. finds S n Y (put T t X (ref_at S n).to) ≡ true) (sym here) (still n i (eqb (ref_at S n).to t) refl));
      checked = (every_in _ (checks_of S t)).1 (λ n i.
          let q = (check_place S n (λ c. eqb c.of t)).0 i in
          subst (λ Y. keeps S n Y ≡ true) (sym here) (safe.keeping n q.0 (eqb-true _ _ q.1) ((every_in _ (checks_of S t)).0 l.checked n i)));
    }
      where
        here : put T t X t ≡ X
        here = put_same T t X

        still : (n : ℕ) → In n (refs_of S t) → (b : Bool) → eqb (ref_at S n).to t ≡ b → finds S n X (put T t X (ref_at S n).to) ≡ true
        still n i b e =
            let q = (ref_place S n (λ f. eqb f.of t)).0 i in
            let o : (ref_at S n).of ≡ t = eqb-true _ _ q.1 in
            go b e q.0 o (safe.referring n q.0 o ((every_in _ (refs_of S t)).0 l.found n i))
          where
            go : (b : Bool) → eqb (ref_at S n).to t ≡ b → Numbered S.refs n → (ref_at S n).of ≡ t → finds S n X (T (ref_at S n).to) ≡ true → finds S n X (put T t X (ref_at S n).to) ≡ true
            go true e m o f =
                let z : (ref_at S n).to ≡ t = eqb-true _ _ e in
                subst (λ Z. finds S n X Z ≡ true) (sym (ap (put T t X) z ∙ here)) (safe.itself n m o z (subst (λ u. finds S n X (T u) ≡ true) z f))
            go false e m o f = subst (λ Z. finds S n X Z ≡ true) (sym (put_other T t (ref_at S n).to X (eqb-false _ _ e))) f

    other_table_lem : (u : ℕ) → (u ≡ t → ⊥) → LawfulTable S R T u → LawfulTable S R (put T t X) u
    other_table_lem u ne l = record {
      fits = subst (λ Y. leb (length Y) R ≡ true) (sym here) l.fits;
      keyed = subst (λ Y. distinct (key_of S u) Y ≡ true) (sym here) l.keyed;
      found = (every_in _ (refs_of S u)).1 (λ n i. subst (λ Y. finds S n Y (put T t X (ref_at S n).to) ≡ true) (sym here) (still n i (eqb (ref_at S n).to t) refl));
      checked = (every_in _ (checks_of S u)).1 (λ n i. subst (λ Y. keeps S n Y ≡ true) (sym here) ((every_in _ (checks_of S u)).0 l.checked n i));
    }
      where
        here : put T t X u ≡ T u
        here = put_other T t u X ne

        still : (n : ℕ) → In n (refs_of S u) → (b : Bool) → eqb (ref_at S n).to t ≡ b → finds S n (T u) (put T t X (ref_at S n).to) ≡ true
        still n i true e =
            let q = (ref_place S n (λ f. eqb f.of u)).0 i in
            let z : (ref_at S n).to ≡ t = eqb-true _ _ e in
            let o : (ref_at S n).of ≡ u = eqb-true _ _ q.1 in
            let old : finds S n (T u) (T (ref_at S n).to) ≡ true = (every_in _ (refs_of S u)).0 l.found n i in
            subst₂ (λ Y Z. finds S n Y Z ≡ true) (ap T o) (sym (ap (put T t X) z ∙ put_same T t X))
            (safe.referred n q.0 z (subst₂ (λ Y Z. finds S n Y Z ≡ true) (ap T (sym o)) (ap T z) old))
        still n i false e =
            subst (λ Z. finds S n (T u) Z ≡ true) (sym (put_other T t (ref_at S n).to X (eqb-false _ _ e))) ((every_in _ (refs_of S u)).0 l.found n i)

    safe_lawful : EachLawful S R T → EachLawful S R (put T t X)
    safe_lawful law = below_every (LawfulTable S R (put T t X)) 1 S.tables (λ u lo hi. go u (eqb u t) refl (every_below (LawfulTable S R T) 1 S.tables law u lo hi))
      where
        go : (u : ℕ) (b : Bool) → eqb u t ≡ b → LawfulTable S R T u → LawfulTable S R (put T t X) u
        go u true e = subst (λ v. LawfulTable S R T v → LawfulTable S R (put T t X) v) (sym (eqb-true u t e)) written_table
        go u false e = other_table_lem u (eqb-false u t e)

-- ---- each row of U refers to a key of T: it refers to one of X, if each row of T that is held has its key in X

still_found : (S : Schema) (n : ℕ) (U T X : Table) →
    ((q : Row) → In q T → has (ref_at S n).from U (attr q (key_of S (ref_at S n).to)) ≡ true → (x : Row) × In x X × (attr x (key_of S (ref_at S n).to) ≡ attr q (key_of S (ref_at S n).to))) →
    finds S n U T ≡ true → finds S n U X ≡ true
still_found S n U T X h f =
    (all_in _ U).1 (λ u i.
    let q = (has_in (key_of S (ref_at S n).to) T (attr u (ref_at S n).from)).0 ((all_in _ U).0 f u i) in
    let x = h q.0 q.1 ((has_in (ref_at S n).from U (attr q.0 (key_of S (ref_at S n).to))).1 (u, i, sym q.2)) in
    (has_in (key_of S (ref_at S n).to) X (attr u (ref_at S n).from)).1 (x.0, x.1, x.2 ∙ q.2))

-- what holds of every row of T by an attribute holds of X, if each row of X has that attribute of a row of T
still_all : (g : ℤ → Bool) (k : ℕ) (T X : Table) → ((x : Row) → In x X → (r : Row) × In r T × (attr x k ≡ attr r k)) → all (λ r. g (attr r k)) T ≡ true → all (λ r. g (attr r k)) X ≡ true
still_all g k T X h a = (all_in _ X).1 (λ x i. let r = h x i in ap g r.2 ∙ (all_in _ T).0 a r.0 r.1)

-- ---- the three writes

module _ {I L A : Type 0} (S : Schema) (R : ℕ) (η : Env I L A) (T : ℕ → Table) (X : Table) where
  -- what the D test of reference n says: a row that is held is not lost
  not_lost : (w : Write I L A) (n : ℕ) → (ref_at S n).to ≡ target w → passes S η T w X (D n) ≡ some true →
      (q : Row) → In q (T (target w)) → has (ref_at S n).from (T (ref_at S n).of) (attr q (key_of S (ref_at S n).to)) ≡ true → lost S η w q ≡ some false
  not_lost w n e p q i h =
      let u = bind_some (holds_one (key_of S (target w)) (ref_at S n).from (T (ref_at S n).of) (lost S η w) (T (target w))) _ true p in
      held_none (key_of S (target w)) (ref_at S n).from (T (ref_at S n).of) (lost S η w) (T (target w)) (u.1 ∙ ap some (not-true u.0 (some_inj u.2))) q i
      (subst (λ t. has (ref_at S n).from (T (ref_at S n).of) (attr q (key_of S t)) ≡ true) e h)

  module _ (t : ℕ) (es : List (Expression I L A)) (made : left S R η (insert t es) (T t) ≡ some X) (ok : broken (passes S η T (insert t es) X) (fitting S (insert t es)) ≡ some none) where
    insert_safe : Safe S R T t X
    insert_safe =
        let u = bind_some (values η es) _ X made in
        let v = grows u.0 (ltb (length (T t)) R) refl u.2 in
        let passed = tests_pass (passes S η T (insert t es) X) (fitting S (insert t es)) ok in
        record {
          few = λ l. subst (λ Y. length Y ≤ R) v.1 (subst (λ m. m ≤ R) (sym (among_length (key_of S t) u.0 (T t))) v.0);
          apart = λ d. some_inj (passed K (inl refl));
          referring = λ n l e f. some_inj (passed (F n) (inr (in_left (F n) (map F (refs_of S t)) (map C (checks_of S t)) (in_map F n (refs_of S t) ((ref_place S n (λ f. eqb f.of t)).1 (l, eq-eqb _ _ e))))));
          keeping = λ n l e f. some_inj (passed (C n) (inr (in_right (C n) (map F (refs_of S t)) (map C (checks_of S t)) (in_map C n (checks_of S t) ((check_place S n (λ c. eqb c.of t)).1 (l, eq-eqb _ _ e))))));
          referred = λ n l e. still_found S n (T (ref_at S n).of) (T t) X (λ q i h. (q, subst (In q) v.1 ((among_in (key_of S t) u.0 (T t) q).1 (inr i)), refl));
          itself = λ n l o e. still_found S n X (T t) X (λ q i h. (q, subst (In q) v.1 ((among_in (key_of S t) u.0 (T t) q).1 (inr i)), refl));
        }
      where
        grows : (r : Row) (b : Bool) → ltb (length (T t)) R ≡ b → cond b (some (among (key_of S t) r (T t))) none ≡ some X → (length (T t) < R) × (among (key_of S t) r (T t) ≡ X)
        grows r true e z = (ltb-true _ _ e, some_inj z)
        grows r false e z = absurd (none_some z)

  module _ (t : ℕ) (c : Condition I L A) (made : left S R η (delete t c) (T t) ≡ some X) (ok : broken (passes S η T (delete t c) X) (fitting S (delete t c)) ≡ some none) where
    -- the rows that stay
    abbrev stays : Row → Option Bool
    stays r = bind (truth η (some r) c) (λ b. some (not b))

    delete_safe : Safe S R T t X
    delete_safe =
        record {
          few = λ l. (let m : length X ≤ length (T t) = kept_length stays (T t) X made in omega arith);
          apart = kept_distinct stays (key_of S t) (T t) X made;
          referring = λ n l e. still_all (has (key_of S (ref_at S n).to) (T (ref_at S n).to)) (ref_at S n).from (T t) X (λ x i. (x, kept_from stays (T t) X made x i, refl));
          keeping = λ n l e. still_all (λ z. compares (check_at S n).order z (check_at S n).bound) (check_at S n).at (T t) X (λ x i. (x, kept_from stays (T t) X made x i, refl));
          referred = λ n l e. still_found S n (T (ref_at S n).of) (T t) X (λ q i h. (q, remains n l e q i h, refl));
          itself = λ n l o e. still_found S n X (T t) X (λ q i h.
              let x = (has_in (ref_at S n).from X (attr q (key_of S (ref_at S n).to))).0 h in
              (q, remains n l e q i ((has_in (ref_at S n).from (T (ref_at S n).of) (attr q (key_of S (ref_at S n).to))).1 (x.0, subst (λ u. In x.0 (T u)) (sym o) (kept_from stays (T t) X made x.0 x.1), x.2)), refl));
        }
      where
        -- a row that is held remains
        remains : (n : ℕ) → Numbered S.refs n → (ref_at S n).to ≡ t → (q : Row) → In q (T t) → has (ref_at S n).from (T (ref_at S n).of) (attr q (key_of S (ref_at S n).to)) ≡ true → In q X
        remains n l e q i h =
            let passed = tests_pass (passes S η T (delete t c) X) (fitting S (delete t c)) ok in
            kept_to stays (T t) X made q i (ap (λ o. bind o (λ b. some (not b)))
            (not_lost (delete t c) n e (passed (D n) (in_map D n (refs_to S t) ((ref_place S n (λ f. eqb f.to t)).1 (l, eq-eqb _ _ e)))) q i h))

  module _ (t k : ℕ) (e : Expression I L A) (c : Condition I L A) (made : left S R η (update t k e c) (T t) ≡ some X) (ok : broken (passes S η T (update t k e c) X) (fitting S (update t k e c)) ≡ some none) where
    -- what becomes of a row
    abbrev turned_to : Row → Option Row
    turned_to = altered k (λ r. value η (some r) e) (λ r. truth η (some r) c)

    -- a row keeps its other attributes; and, if it is not lost, its key
    keeps_other : (j : ℕ) → (j ≡ k → ⊥) → (r q : Row) → turned_to r ≡ some q → attr q j ≡ attr r j
    keeps_other j ne r q z = let u = bind_some (truth η (some r) c) _ q z in go u.0 u.2
      where
        go : (b : Bool) → cond b (bind (value η (some r) e) (λ z. some (alter r k z))) (some r) ≡ some q → attr q j ≡ attr r j
        go true w = let v = bind_some (value η (some r) e) _ q w in ap (λ y. attr y j) (sym (some_inj v.2)) ∙ alter_other r k j v.0 ne
        go false w = ap (λ y. attr y j) (sym (some_inj w))

    keeps_key : k ≡ key_of S t → (r q : Row) → turned_to r ≡ some q → lost S η (update t k e c) r ≡ some false → attr q (key_of S t) ≡ attr r (key_of S t)
    keeps_key z r q m l = go (truth η (some r) c) (value η (some r) e) m l
      where
        same_key : (a : ℤ) → not (eq_z a (attr r (key_of S t))) ≡ false → alter r k a ≡ q → attr q (key_of S t) ≡ attr r (key_of S t)
        same_key a n y = ap (λ x. attr x (key_of S t)) (sym y) ∙ ap (attr (alter r k a)) (sym z) ∙ alter_same r k a ∙ (eq_z_is a (attr r (key_of S t))).0 (not-false _ n)

        go : (o : Option Bool) (v : Option ℤ) → bind o (λ b. cond b (bind v (λ z. some (alter r k z))) (some r)) ≡ some q →
            bind o (λ b. cond b (bind v (λ z. some (not (eq_z z (attr r (key_of S t)))))) (some false)) ≡ some false → attr q (key_of S t) ≡ attr r (key_of S t)
        go none v m l = absurd (none_some m)
        go (some true) none m l = absurd (none_some m)
        go (some true) (some a) m l = same_key a (some_inj l) (some_inj m)
        go (some false) v m l = ap (λ x. attr x (key_of S t)) (sym (some_inj m))

    passed : (x : Exception) → In x (fitting S (update t k e c)) → passes S η T (update t k e c) X x ≡ some true
    passed = tests_pass (passes S η T (update t k e c) X) (fitting S (update t k e c)) ok

    -- the tests that fit, part by part
    abbrev K_part : List Exception
    K_part = cond (eqb k (key_of S t)) (K ∷ []) []

    -- references of the attribute
    abbrev F_part : List Exception
    F_part = map F (places (λ f. eqb f.of t && eqb f.from k) 1 S.refs)

    -- checks of the attribute
    abbrev C_part : List Exception
    C_part = map C (places (λ c. eqb c.of t && eqb c.at k) 1 S.checks)

    -- references that name the table
    abbrev D_part : List Exception
    D_part = cond (eqb k (key_of S t)) (map D (refs_to S t)) []

    fits_K : k ≡ key_of S t → In K (fitting S (update t k e c))
    fits_K z = in_left K K_part (F_part ++ (C_part ++ D_part)) (rw (eq-eqb k (key_of S t) z) (inl refl))

    fits_F : (n : ℕ) → Numbered S.refs n → (ref_at S n).of ≡ t → (ref_at S n).from ≡ k → In (F n) (fitting S (update t k e c))
    fits_F n l o z =
        in_right (F n) K_part (F_part ++ (C_part ++ D_part)) (in_left (F n) F_part (C_part ++ D_part)
        (in_map F n _ ((ref_place S n (λ f. eqb f.of t && eqb f.from k)).1 (l, (and_iff _ _).1 (eq-eqb _ _ o, eq-eqb _ _ z)))))

    fits_C : (n : ℕ) → Numbered S.checks n → (check_at S n).of ≡ t → (check_at S n).at ≡ k → In (C n) (fitting S (update t k e c))
    fits_C n l o z =
        in_right (C n) K_part (F_part ++ (C_part ++ D_part)) (in_right (C n) F_part (C_part ++ D_part) (in_left (C n) C_part D_part
        (in_map C n _ ((check_place S n (λ c. eqb c.of t && eqb c.at k)).1 (l, (and_iff _ _).1 (eq-eqb _ _ o, eq-eqb _ _ z))))))

    fits_D : (n : ℕ) → Numbered S.refs n → (ref_at S n).to ≡ t → k ≡ key_of S t → In (D n) (fitting S (update t k e c))
    fits_D n l o z =
        in_right (D n) K_part (F_part ++ (C_part ++ D_part)) (in_right (D n) F_part (C_part ++ D_part) (in_right (D n) C_part D_part
        (rw (eq-eqb k (key_of S t) z) (in_map D n (refs_to S t) ((ref_place S n (λ f. eqb f.to t)).1 (l, eq-eqb _ _ o))))))

    update_safe : Safe S R T t X
    update_safe = record {
      few = λ l. subst (λ m. m ≤ R) (sym (changed_length (key_of S t) turned_to (T t) X made)) l;
      apart = λ d. keyed d (eqb k (key_of S t)) refl;
      referring = λ n l o f. refers n l o f (eqb (ref_at S n).from k) refl;
      keeping = λ n l o f. checks n l o f (eqb (check_at S n).at k) refl;
      referred = λ n l o. still_found S n (T (ref_at S n).of) (T t) X (λ q i h. held n l o q i h (eqb k (key_of S t)) refl);
      itself = λ n l o e. still_found S n X (T t) X (λ q i h.
          let x = (has_in (ref_at S n).from X (attr q (key_of S (ref_at S n).to))).0 h in
          own n l o e q i x.0 x.1 x.2 (eqb (ref_at S n).from k) refl (eqb k (key_of S t)) refl);
    }
      where
        keyed : distinct (key_of S t) (T t) ≡ true → (b : Bool) → eqb k (key_of S t) ≡ b → distinct (key_of S t) X ≡ true
        keyed d true z = some_inj (passed K (fits_K (eqb-true _ _ z)))
        keyed d false z = changed_distinct (key_of S t) turned_to (keeps_other (key_of S t) (λ y. eqb-false _ _ z (sym y))) (T t) X made d

        from_old : (j : ℕ) → (j ≡ k → ⊥) → (x : Row) → In x X → (r : Row) × In r (T t) × (attr x j ≡ attr r j)
        from_old j ne x i = let v = changed_from (key_of S t) turned_to (T t) X made x i in (v.0, v.1, keeps_other j ne v.0 x v.2)

        refers : (n : ℕ) → Numbered S.refs n → (ref_at S n).of ≡ t → finds S n (T t) (T (ref_at S n).to) ≡ true → (b : Bool) → eqb (ref_at S n).from k ≡ b → finds S n X (T (ref_at S n).to) ≡ true
        refers n l o f true z = some_inj (passed (F n) (fits_F n l o (eqb-true _ _ z)))
        refers n l o f false z = still_all (has (key_of S (ref_at S n).to) (T (ref_at S n).to)) (ref_at S n).from (T t) X (from_old (ref_at S n).from (eqb-false _ _ z)) f

        checks : (n : ℕ) → Numbered S.checks n → (check_at S n).of ≡ t → keeps S n (T t) ≡ true → (b : Bool) → eqb (check_at S n).at k ≡ b → keeps S n X ≡ true
        checks n l o f true z = some_inj (passed (C n) (fits_C n l o (eqb-true _ _ z)))
        checks n l o f false z = still_all (λ z. compares (check_at S n).order z (check_at S n).bound) (check_at S n).at (T t) X (from_old (check_at S n).at (eqb-false _ _ z)) f

        held : (n : ℕ) → Numbered S.refs n → (ref_at S n).to ≡ t → (q : Row) → In q (T t) → has (ref_at S n).from (T (ref_at S n).of) (attr q (key_of S (ref_at S n).to)) ≡ true →
            (b : Bool) → eqb k (key_of S t) ≡ b → (x : Row) × In x X × (attr x (key_of S (ref_at S n).to) ≡ attr q (key_of S (ref_at S n).to))
        held n l o q i h b z =
            let v = changed_to (key_of S t) turned_to (T t) X made q i in
            (v.0, v.2, subst (λ u. attr v.0 (key_of S u) ≡ attr q (key_of S u)) (sym o) (key v.0 v.1 b z))
          where
            key : (x : Row) → turned_to q ≡ some x → (b : Bool) → eqb k (key_of S t) ≡ b → attr x (key_of S t) ≡ attr q (key_of S t)
            key x m true z = keeps_key (eqb-true _ _ z) q x m (not_lost (update t k e c) n o (passed (D n) (fits_D n l o (eqb-true _ _ z))) q i h)
            key x m false z = keeps_other (key_of S t) (λ y. eqb-false _ _ z (sym y)) q x m

        -- a row x of the same table refers to q: x had that value before, or it is a new key, x's own
        own : (n : ℕ) → Numbered S.refs n → (ref_at S n).of ≡ t → (ref_at S n).to ≡ t → (q : Row) → In q (T t) → (x : Row) → In x X → attr x (ref_at S n).from ≡ attr q (key_of S (ref_at S n).to) →
            (a : Bool) → eqb (ref_at S n).from k ≡ a → (b : Bool) → eqb k (key_of S t) ≡ b → (y : Row) × In y X × (attr y (key_of S (ref_at S n).to) ≡ attr q (key_of S (ref_at S n).to))
        own n l o e q i x j z a f true g = go a f
          where
            go : (a : Bool) → eqb (ref_at S n).from k ≡ a → (y : Row) × In y X × (attr y (key_of S (ref_at S n).to) ≡ attr q (key_of S (ref_at S n).to))
            go true f = (x, j, ap (λ u. attr x (key_of S u)) e ∙ ap (attr x) (sym (eqb-true _ _ f ∙ eqb-true _ _ g)) ∙ z)
            go false f =
                let r = from_old (ref_at S n).from (eqb-false _ _ f) x j in
                held n l e q i ((has_in (ref_at S n).from (T (ref_at S n).of) (attr q (key_of S (ref_at S n).to))).1 (r.0, subst (λ u. In r.0 (T u)) (sym o) r.1, sym r.2 ∙ z)) true g
        own n l o e q i x j z a f false g =
            let v = changed_to (key_of S t) turned_to (T t) X made q i in
            (v.0, v.2, subst (λ u. attr v.0 (key_of S u) ≡ attr q (key_of S u)) (sym e) (keeps_other (key_of S t) (λ y. eqb-false _ _ g (sym y)) q v.0 v.1))

  write_safe : (w : Write I L A) → left S R η w (T (target w)) ≡ some X → broken (passes S η T w X) (fitting S w) ≡ some none → Safe S R T (target w) X
  write_safe (insert t es) m ok = insert_safe t es m ok
  write_safe (update t k e c) m ok = update_safe t k e c m ok
  write_safe (delete t c) m ok = delete_safe t c m ok

  pub write_lawful : (w : Write I L A) → left S R η w (T (target w)) ≡ some X → broken (passes S η T w X) (fitting S w) ≡ some none →
      LawfulTables S R T → LawfulTables S R (put T (target w) X)
  write_lawful w m ok l = (lawful_iff S R (put T (target w) X)).1 (safe_lawful S R T (target w) X (write_safe w m ok) ((lawful_iff S R T).0 l))
