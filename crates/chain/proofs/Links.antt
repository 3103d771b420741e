-- Chains: their slots are distinct, and what a shift of one node from a chain to another does.
use Rattle.std.proofs.Common.{◌≡◌, ℕ, zero, suc, ◌+◌, ◌-◌, ◌<◌, ◌≤◌, cond, eqb, ◌⊎◌, List, [], ◌∷◌, length, get_or, sym, refl, ap, ◌∙◌, subst, inl, inr, ⊎_elim, suc-le-suc, zero-le, add-zero, arith}
use Rattle.std.specs.List.{insert, remove}
use Rattle.std.proofs.lemmas.List.{get_or_past, get_or-set_same, get_or-set_other, length-set}
use Rattle.std.proofs.lemmas.List.Edits.{length-insert, length-remove, get_or-insert_below, get_or-insert_at, get_or-insert_above, get_or-remove_below, get_or-remove_above}
use Rattle.std.proofs.lemmas.Bool.{cases_eq, cases_lt, cases_order, eq-eqb, ne_eqb, cond-true, cond-false}
use Rattle.chain.specs.Lists.{slot_of, prior, walk, nodes, sum_to, relinked}

-- the chains are the lists L, no node is in two of them, and each node is in one
pub record Strung (n : ℕ) (ps : List ℕ) (L : ℕ → List ℕ) : Type 0 where
  pub points : (c q : ℕ) → c < n → q ≤ length (L c) → get_or ps (slot_of n c (prior (L c) q)) 0 ≡ get_or (L c) q 0
  pub inside : (c q : ℕ) → c < n → q < length (L c) → (0 < get_or (L c) q 0) × (n + get_or (L c) q 0 ≤ length ps)
  pub apart : (c q d r : ℕ) → c < n → d < n → q < length (L c) → r < length (L d) → get_or (L c) q 0 ≡ get_or (L d) r 0 → c ≡ d
  pub total : n + sum_to n (λ c. length (L c)) ≡ length ps

-- L with the node at place p of chain a moved to place q of chain b
abbrev pub shifted : (ℕ → List ℕ) → ℕ → ℕ → ℕ → ℕ → ℕ → List ℕ
shifted L a p b q d = cond (eqb d a) (remove (L a) p) (cond (eqb d b) (insert (L b) q (get_or (L a) p 0)) (L d))

pub slot_node : (n c i : ℕ) → 0 < i → slot_of n c i ≡ n + (i - 1)
slot_node n c zero h = absurd (omega arith)
slot_node n c (suc i) h = omega arith

module _ (n : ℕ) (ps : List ℕ) (L : ℕ → List ℕ) (st : Strung n ps L) where
  -- the pointer of the node at place q
  pub onward : (c q : ℕ) → c < n → q < length (L c) → get_or ps (n + (get_or (L c) q 0 - 1)) 0 ≡ get_or (L c) (q + 1) 0
  onward c q lt h =
      ap (λ s. get_or ps s 0) (sym (slot_node n c (get_or (L c) q 0) (st.inside c q lt h).0))
      ∙ st.points c (suc q) lt h ∙ ap (λ j. get_or (L c) j 0) (omega arith)

  same_on : (c p q : ℕ) → c < n → get_or (L c) p 0 ≡ get_or (L c) q 0 → (k : ℕ) → get_or (L c) (p + k) 0 ≡ get_or (L c) (q + k) 0
  same_on c p q lt e zero = ap (λ j. get_or (L c) j 0) (add-zero p) ∙ e ∙ sym (ap (λ j. get_or (L c) j 0) (add-zero q))
  same_on c p q lt e (suc k) =
      let ih = same_on c p q lt e k in
      let one : (i : ℕ) → get_or (L c) (i + suc k) 0 ≡ get_or (L c) (i + k + 1) 0 = λ i. ap (λ j. get_or (L c) j 0) (omega arith) in
      one p ∙ ⊎_elim
      (λ h. ⊎_elim
      (λ g. sym (onward c (p + k) lt h) ∙ ap (λ i. get_or ps (n + (i - 1)) 0) ih ∙ onward c (q + k) lt g)
      (λ g. absurd (omega (arith, (st.inside c (p + k) lt h).0, get_or_past (L c) (q + k) 0 g, ih)))
      (cases_lt (q + k) (length (L c))))
      (λ h. ⊎_elim
      (λ g. absurd (omega (arith, (st.inside c (q + k) lt g).0, get_or_past (L c) (p + k) 0 h, ih)))
      (λ g. get_or_past (L c) (p + k + 1) 0 (omega arith) ∙ sym (get_or_past (L c) (q + k + 1) 0 (omega arith)))
      (cases_lt (q + k) (length (L c))))
      (cases_lt (p + k) (length (L c))) ∙ sym (one q)

  twice : (c p q : ℕ) → c < n → p < q → q < length (L c) → get_or (L c) p 0 ≡ get_or (L c) q 0 → ⊥
  twice c p q lt h g e =
      let k : ℕ = length (L c) - q in
      let s = same_on c p q lt e (length (L c) - q) in
      let z = get_or_past (L c) (q + (length (L c) - q)) 0 (omega arith) in
      omega (arith, (st.inside c (p + (length (L c) - q)) lt (omega arith)).0, s, z)

  pub distinct : (c p q : ℕ) → c < n → p < length (L c) → q < length (L c) → get_or (L c) p 0 ≡ get_or (L c) q 0 → p ≡ q
  distinct c p q lt h g e = ⊎_elim (λ x. x) (⊎_elim (λ l. absurd (twice c p q lt l g e)) (λ l. absurd (twice c q p lt l h (sym e)))) (cases_order p q)

  pub one_slot : (c q d r : ℕ) → c < n → d < n → q ≤ length (L c) → r ≤ length (L d) → slot_of n c (prior (L c) q) ≡ slot_of n d (prior (L d) r) → (c ≡ d) × (q ≡ r)
  one_slot c zero d zero lc ld hq hr e = (e, refl)
  one_slot c zero d (suc r) lc ld hq hr e = absurd (omega (arith, e, slot_node n d (get_or (L d) r 0) (st.inside d r ld hr).0))
  one_slot c (suc q) d zero lc ld hq hr e = absurd (omega (arith, e, slot_node n c (get_or (L c) q 0) (st.inside c q lc hq).0))
  one_slot c (suc q) d (suc r) lc ld hq hr e =
      let i = (st.inside c q lc hq).0 in
      let j = (st.inside d r ld hr).0 in
      let same : get_or (L c) q 0 ≡ get_or (L d) r 0 = omega (arith, e, slot_node n c (get_or (L c) q 0) i, slot_node n d (get_or (L d) r 0) j) in
      let cd : c ≡ d = st.apart c q d r lc ld hq hr same in
      let r' : r < length (L c) = subst (λ x. r < length (L x)) (sym cd) hr in
      (cd, ap suc (distinct c q r lc hq r' (same ∙ ap (λ x. get_or (L x) r 0) (sym cd))))

-- ---- walks

pub walk_is : (n : ℕ) (ps : List ℕ) (is : List ℕ) (f h : ℕ) → length is ≤ f → h ≡ get_or is 0 0
    → ((q : ℕ) → q < length is → (0 < get_or is q 0) × (get_or ps (n + (get_or is q 0 - 1)) 0 ≡ get_or is (suc q) 0)) → walk f n ps h ≡ is
walk_is n ps [] zero h le e each = refl
walk_is n ps [] (suc f) h le e each = ap (walk (suc f) n ps) e
walk_is n ps (i ∷ is) zero h le e each = absurd (omega arith)
walk_is n ps (zero ∷ is) (suc f) h le e each = absurd (omega (arith, (each 0 (suc-le-suc zero-le)).0))
walk_is n ps (suc i ∷ is) (suc f) h le e each =
    ap (walk (suc f) n ps) e ∙ ap (λ t. suc i ∷ t) (walk_is n ps is f (get_or ps (n + i) 0) (omega arith)
    (ap (λ j. get_or ps (n + j) 0) (omega arith) ∙ (each 0 (suc-le-suc zero-le)).1) (λ q h'. each (suc q) (suc-le-suc h')))

-- ---- what stands before a place, after an edit

prior_removed_low : (xs : List ℕ) (p r : ℕ) → p < length xs → r ≤ p → prior (remove xs p) r ≡ prior xs r
prior_removed_low xs p zero h l = refl
prior_removed_low xs p (suc k) h l = get_or-remove_below xs p 0 k l h

prior_removed_high : (xs : List ℕ) (p r : ℕ) → p < length xs → p < r → prior (remove xs p) r ≡ prior xs (suc r)
prior_removed_high xs p zero h l = absurd (omega arith)
prior_removed_high xs p (suc k) h l = get_or-remove_above xs p 0 k (omega arith) h ∙ ap (λ j. get_or xs j 0) (omega arith)

prior_inserted_low : (xs : List ℕ) (q x r : ℕ) → q ≤ length xs → r ≤ q → prior (insert xs q x) r ≡ prior xs r
prior_inserted_low xs q x zero h l = refl
prior_inserted_low xs q x (suc k) h l = get_or-insert_below xs q x 0 k l h

prior_inserted_high : (xs : List ℕ) (q x r : ℕ) → q ≤ length xs → q < r → prior (insert xs q x) (suc r) ≡ prior xs r
prior_inserted_high xs q x zero h l = absurd (omega arith)
prior_inserted_high xs q x (suc k) h l = ap (λ j. get_or (insert xs q x) j 0) (omega arith) ∙ get_or-insert_above xs q x 0 k (omega arith) h

-- ---- sums

pub sum_same : (n : ℕ) (f g : ℕ → ℕ) → ((c : ℕ) → c < n → f c ≡ g c) → sum_to n f ≡ sum_to n g
sum_same zero f g h = refl
sum_same (suc n) f g h = let i = sum_same n f g (λ c l. h c (omega arith)) in let j = h n (omega arith) in omega arith

-- one term less by one
pub sum_less : (n a : ℕ) (f g : ℕ → ℕ) → a < n → g a + 1 ≡ f a → ((c : ℕ) → (c ≡ a → ⊥) → g c ≡ f c) → sum_to n g + 1 ≡ sum_to n f
sum_less zero a f g l e h = absurd (omega arith)
sum_less (suc n) a f g l e h = ⊎_elim
    (λ an. let r = sum_same n g f (λ c cl. h c (omega arith)) in let t : g n + 1 ≡ f n = subst (λ i. g i + 1 ≡ f i) an e in omega arith)
    (λ ne. let r = sum_less n a f g (omega arith) e h in let t = h n (λ x. ne (sym x)) in omega arith)
    (cases_eq a n)

-- ---- a shift of one node

module _ (n : ℕ) (ps : List ℕ) (L : ℕ → List ℕ) (st : Strung n ps L) where
  slot_in : (c q : ℕ) → c < n → q ≤ length (L c) → slot_of n c (prior (L c) q) < length ps
  slot_in c zero lt h = omega (arith, st.total)
  slot_in c (suc q) lt h = let i = st.inside c q lt h in omega (arith, slot_node n c (get_or (L c) q 0) i.0, i.0, i.1)

  module _ (a p b q : ℕ) (la : a < n) (lb : b < n) (ne : a ≡ b → ⊥) (hp : p < length (L a)) (hq : q ≤ length (L b)) where
    at_x : get_or (relinked n ps (get_or (L a) p 0) (slot_of n a (prior (L a) p)) (slot_of n b (prior (L b) q))) (slot_of n a (prior (L a) (suc p))) 0 ≡ get_or (L b) q 0
    at_x =
        let e = slot_node n a (get_or (L a) p 0) (st.inside a p la hp).0 in
        let w : n + (get_or (L a) p 0 - 1) < length ps = omega (arith, slot_in a (suc p) la hp, e) in
        ap (λ s. get_or (relinked n ps (get_or (L a) p 0) (slot_of n a (prior (L a) p)) (slot_of n b (prior (L b) q))) s 0) e
        ∙ get_or-set_same _ (n + (get_or (L a) p 0 - 1)) _ 0 (subst (λ m. n + (get_or (L a) p 0 - 1) < m) (sym (length-set _ _ _ ∙ length-set _ _ _)) w)
        ∙ st.points b q lb hq

    at_b : get_or (relinked n ps (get_or (L a) p 0) (slot_of n a (prior (L a) p)) (slot_of n b (prior (L b) q))) (slot_of n b (prior (L b) q)) 0 ≡ get_or (L a) p 0
    at_b =
        let e = slot_node n a (get_or (L a) p 0) (st.inside a p la hp).0 in
        let w = slot_in b q lb hq in
        get_or-set_other _ (n + (get_or (L a) p 0 - 1)) (slot_of n b (prior (L b) q)) _ 0 (λ x. ne (sym (one_slot n ps L st b q a (suc p) lb la hq hp (x ∙ sym e)).0))
        ∙ get_or-set_same _ (slot_of n b (prior (L b) q)) _ 0 (subst (λ m. slot_of n b (prior (L b) q) < m) (sym (length-set _ _ _)) w)

    at_a : get_or (relinked n ps (get_or (L a) p 0) (slot_of n a (prior (L a) p)) (slot_of n b (prior (L b) q))) (slot_of n a (prior (L a) p)) 0 ≡ get_or (L a) (p + 1) 0
    at_a =
        let e = slot_node n a (get_or (L a) p 0) (st.inside a p la hp).0 in
        let w = slot_in a p la (omega arith) in
        get_or-set_other _ (n + (get_or (L a) p 0 - 1)) (slot_of n a (prior (L a) p)) _ 0 (λ x. let z = (one_slot n ps L st a p a (suc p) la la (omega arith) hp (x ∙ sym e)).1 in omega arith)
        ∙ get_or-set_other _ (slot_of n b (prior (L b) q)) (slot_of n a (prior (L a) p)) _ 0 (λ x. ne (one_slot n ps L st a p b q la lb (omega arith) hq x).0)
        ∙ get_or-set_same ps (slot_of n a (prior (L a) p)) _ 0 w
        ∙ onward n ps L st a p la hp

    at_else : (d r : ℕ) → d < n → r ≤ length (L d) → (d ≡ a → (r ≡ p → ⊥) × (r ≡ suc p → ⊥)) → (d ≡ b → r ≡ q → ⊥)
        → get_or (relinked n ps (get_or (L a) p 0) (slot_of n a (prior (L a) p)) (slot_of n b (prior (L b) q))) (slot_of n d (prior (L d) r)) 0 ≡ get_or (L d) r 0
    at_else d r ld hr na nb =
        let e = slot_node n a (get_or (L a) p 0) (st.inside a p la hp).0 in
        get_or-set_other _ (n + (get_or (L a) p 0 - 1)) (slot_of n d (prior (L d) r)) _ 0 (λ x. let z = one_slot n ps L st d r a (suc p) ld la hr hp (x ∙ sym e) in (na z.0).1 z.1)
        ∙ get_or-set_other _ (slot_of n b (prior (L b) q)) (slot_of n d (prior (L d) r)) _ 0 (λ x. let z = one_slot n ps L st d r b q ld lb hr hq x in nb z.0 z.1)
        ∙ get_or-set_other ps (slot_of n a (prior (L a) p)) (slot_of n d (prior (L d) r)) _ 0 (λ x. let z = one_slot n ps L st d r a p ld la hr (omega arith) x in (na z.0).0 z.1)
        ∙ st.points d r ld hr

    points_a : (r : ℕ) → r ≤ length (remove (L a) p)
        → get_or (relinked n ps (get_or (L a) p 0) (slot_of n a (prior (L a) p)) (slot_of n b (prior (L b) q))) (slot_of n a (prior (remove (L a) p) r)) 0 ≡ get_or (remove (L a) p) r 0
    points_a r hr =
        let len = length-remove (L a) p hp in
        let ps' = relinked n ps (get_or (L a) p 0) (slot_of n a (prior (L a) p)) (slot_of n b (prior (L b) q)) in
        ⊎_elim
        (λ e. ap (λ j. get_or ps' (slot_of n a j) 0) (prior_removed_low (L a) p r hp (omega arith)) ∙ ap (λ j. get_or ps' (slot_of n a (prior (L a) j)) 0) e ∙ at_a
        ∙ sym (ap (λ j. get_or (remove (L a) p) j 0) e ∙ get_or-remove_above (L a) p 0 p (omega arith) hp))
        (⊎_elim
        (λ l. ap (λ j. get_or ps' (slot_of n a j) 0) (prior_removed_low (L a) p r hp (omega arith))
        ∙ at_else a r la (omega arith) (λ _. (omega arith, omega arith)) (λ e. absurd (ne e))
        ∙ sym (get_or-remove_below (L a) p 0 r l hp))
        (λ l. ap (λ j. get_or ps' (slot_of n a j) 0) (prior_removed_high (L a) p r hp l)
        ∙ at_else a (suc r) la (omega arith) (λ _. (omega arith, omega arith)) (λ e. absurd (ne e))
        ∙ ap (λ j. get_or (L a) j 0) (omega arith) ∙ sym (get_or-remove_above (L a) p 0 r (omega arith) hp)))
        (cases_order r p)

    points_b : (r : ℕ) → r ≤ length (insert (L b) q (get_or (L a) p 0))
        → get_or (relinked n ps (get_or (L a) p 0) (slot_of n a (prior (L a) p)) (slot_of n b (prior (L b) q))) (slot_of n b (prior (insert (L b) q (get_or (L a) p 0)) r)) 0 ≡ get_or (insert (L b) q (get_or (L a) p 0)) r 0
    points_b r hr =
        let x = get_or (L a) p 0 in
        let len = length-insert (L b) q x hq in
        let ps' = relinked n ps x (slot_of n a (prior (L a) p)) (slot_of n b (prior (L b) q)) in
        ⊎_elim
        (λ e. ap (λ j. get_or ps' (slot_of n b j) 0) (prior_inserted_low (L b) q x r hq (omega arith)) ∙ ap (λ j. get_or ps' (slot_of n b (prior (L b) j)) 0) e ∙ at_b
        ∙ sym (ap (λ j. get_or (insert (L b) q x) j 0) e ∙ get_or-insert_at (L b) q x 0 hq))
        (⊎_elim
        (λ l. ap (λ j. get_or ps' (slot_of n b j) 0) (prior_inserted_low (L b) q x r hq (omega arith))
        ∙ at_else b r lb (omega arith) (λ e. absurd (ne (sym e))) (λ _. omega arith)
        ∙ sym (get_or-insert_below (L b) q x 0 r l hq))
        (λ l. high r l hr))
        (cases_order r q)
      where
        high : (r : ℕ) → q < r → r ≤ length (insert (L b) q (get_or (L a) p 0))
            → get_or (relinked n ps (get_or (L a) p 0) (slot_of n a (prior (L a) p)) (slot_of n b (prior (L b) q))) (slot_of n b (prior (insert (L b) q (get_or (L a) p 0)) r)) 0 ≡ get_or (insert (L b) q (get_or (L a) p 0)) r 0
        high zero l hr = absurd (omega arith)
        high (suc r) l hr =
            let x = get_or (L a) p 0 in
            let len = length-insert (L b) q x hq in
            let ps' = relinked n ps x (slot_of n a (prior (L a) p)) (slot_of n b (prior (L b) q)) in
            let above : get_or (insert (L b) q x) (suc r) 0 ≡ get_or (L b) r 0 = ap (λ j. get_or (insert (L b) q x) j 0) (omega arith) ∙ get_or-insert_above (L b) q x 0 r (omega arith) hq in
            ⊎_elim
            (λ e. ap (λ j. get_or ps' (slot_of n b j) 0) (ap (λ j. get_or (insert (L b) q x) j 0) e ∙ get_or-insert_at (L b) q x 0 hq)
            ∙ ap (λ s. get_or ps' s 0) (slot_node n b x (st.inside a p la hp).0 ∙ sym (slot_node n a x (st.inside a p la hp).0))
            ∙ at_x ∙ ap (λ j. get_or (L b) j 0) (sym e) ∙ sym above)
            (λ g. ap (λ j. get_or ps' (slot_of n b j) 0) (prior_inserted_high (L b) q x r hq (omega arith))
            ∙ at_else b r lb (omega arith) (λ e. absurd (ne (sym e))) (λ _. omega arith) ∙ sym above)
            (cases_eq r q)

-- ---- list by list

by_shift : (L : ℕ → List ℕ) (a p b q : ℕ) (P : ℕ → List ℕ → Type 0) → (a ≡ b → ⊥) → P a (remove (L a) p) → P b (insert (L b) q (get_or (L a) p 0))
    → ((d : ℕ) → (d ≡ a → ⊥) → (d ≡ b → ⊥) → P d (L d)) → (d : ℕ) → P d (shifted L a p b q d)
by_shift L a p b q P ne pa pb pd d = ⊎_elim
    (λ e. subst (λ i. P i (shifted L a p b q i)) (sym e) (subst (P a) (sym (cond-true (eqb a a) _ _ (eq-eqb a a refl))) pa))
    (λ na. ⊎_elim
    (λ e. subst (λ i. P i (shifted L a p b q i)) (sym e) (subst (P b) (sym (cond-false (eqb b a) _ _ (ne_eqb b a (λ x. ne (sym x))) ∙ cond-true (eqb b b) _ _ (eq-eqb b b refl))) pb))
    (λ nb. subst (P d) (sym (cond-false (eqb d a) _ _ (ne_eqb d a na) ∙ cond-false (eqb d b) _ _ (ne_eqb d b nb))) (pd d na nb))
    (cases_eq d b))
    (cases_eq d a)

pub shifted_a : (L : ℕ → List ℕ) (a p b q : ℕ) → shifted L a p b q a ≡ remove (L a) p
shifted_a L a p b q = cond-true (eqb a a) _ _ (eq-eqb a a refl)

pub shifted_b : (L : ℕ → List ℕ) (a p b q : ℕ) → (a ≡ b → ⊥) → shifted L a p b q b ≡ insert (L b) q (get_or (L a) p 0)
shifted_b L a p b q ne = cond-false (eqb b a) _ _ (ne_eqb b a (λ x. ne (sym x))) ∙ cond-true (eqb b b) _ _ (eq-eqb b b refl)

pub shifted_else : (L : ℕ → List ℕ) (a p b q d : ℕ) → (d ≡ a → ⊥) → (d ≡ b → ⊥) → shifted L a p b q d ≡ L d
shifted_else L a p b q d na nb = cond-false (eqb d a) _ _ (ne_eqb d a na) ∙ cond-false (eqb d b) _ _ (ne_eqb d b nb)

each_removed : (Q : ℕ → Type 0) (xs : List ℕ) (p : ℕ) → p < length xs → ((k : ℕ) → k < length xs → (k ≡ p → ⊥) → Q (get_or xs k 0)) → (r : ℕ) → r < length (remove xs p) → Q (get_or (remove xs p) r 0)
each_removed Q xs p hp each r hr =
    let len = length-remove xs p hp in
    ⊎_elim (λ l. subst Q (sym (get_or-remove_below xs p 0 r l hp)) (each r (omega arith) (omega arith)))
    (λ l. subst Q (sym (get_or-remove_above xs p 0 r l hp)) (each (r + 1) (omega arith) (omega arith)))
    (cases_lt r p)

each_inserted : (Q : ℕ → Type 0) (xs : List ℕ) (q x : ℕ) → q ≤ length xs → Q x → ((k : ℕ) → k < length xs → Q (get_or xs k 0)) → (r : ℕ) → r < length (insert xs q x) → Q (get_or (insert xs q x) r 0)
each_inserted Q xs q x hq qx each r hr =
    let len = length-insert xs q x hq in
    ⊎_elim (λ e. subst Q (sym (ap (λ j. get_or (insert xs q x) j 0) e ∙ get_or-insert_at xs q x 0 hq)) qx)
    (⊎_elim (λ l. subst Q (sym (get_or-insert_below xs q x 0 r l hq)) (each r (omega arith)))
    (λ l. let back : r ≡ r - 1 + 1 = omega arith in
    subst Q (sym (ap (λ j. get_or (insert xs q x) j 0) back ∙ get_or-insert_above xs q x 0 (r - 1) (omega arith) hq)) (each (r - 1) (omega arith))))
    (cases_order r q)

pub sum_term : (n c : ℕ) (f : ℕ → ℕ) → c < n → f c ≤ sum_to n f
sum_term zero c f l = absurd (omega arith)
sum_term (suc n) c f l = ⊎_elim (λ e. subst (λ i. f i ≤ f n + sum_to n f) (sym e) (omega arith)) (λ ne. let r = sum_term n c f (omega arith) in omega arith) (cases_eq c n)

-- what is known of the lists from the pointers alone
pub nodes_are : (n : ℕ) (ps : List ℕ) (L : ℕ → List ℕ) → Strung n ps L → (c : ℕ) → c < n → nodes n ps c ≡ L c
nodes_are n ps L st c lt =
    walk_is n ps (L c) (length ps) (get_or ps c 0) (let t = sum_term n c (λ i. length (L i)) lt in omega (arith, st.total)) (st.points c 0 lt zero-le)
    (λ q h. ((st.inside c q lt h).0, onward n ps L st c q lt h ∙ ap (λ j. get_or (L c) j 0) (omega arith)))

module _ (n : ℕ) (ps : List ℕ) (L : ℕ → List ℕ) (st : Strung n ps L)
    (a p b q : ℕ) (la : a < n) (lb : b < n) (ne : a ≡ b → ⊥) (hp : p < length (L a)) (hq : q ≤ length (L b)) where
  -- a node of chain d after the shift is the shifted one, or another that was there before
  Was : ℕ → ℕ → Type 0
  Was d i = ((i ≡ get_or (L a) p 0) × (d ≡ b)) ⊎ ((i ≡ get_or (L a) p 0 → ⊥) × ((k : ℕ) × (k < length (L d)) × (get_or (L d) k 0 ≡ i)))

  other : (c k : ℕ) → c < n → k < length (L c) → (c ≡ a → ⊥) → get_or (L c) k 0 ≡ get_or (L a) p 0 → ⊥
  other c k lc hk nc e = nc (st.apart c k a p lc la hk hp e)

  stays : (d k : ℕ) → k < length (L d) → (get_or (L d) k 0 ≡ get_or (L a) p 0 → ⊥) → Was d (get_or (L d) k 0)
  unfolding Was
  stays d k hk ne = inr (ne, (k, hk, refl))

  comes : Was b (get_or (L a) p 0)
  unfolding Was
  comes = inl (refl, refl)

  was_apart : (c d i j : ℕ) → c < n → d < n → i ≡ j → Was c i → Was d j → c ≡ d
  unfolding Was
  was_apart c d i j lc ld e u v = ⊎_elim
      (λ x. ⊎_elim (λ y. x.1 ∙ sym y.1) (λ y. absurd (y.0 (sym e ∙ x.0))) v)
      (λ x. ⊎_elim (λ y. absurd (x.0 (e ∙ y.0))) (λ y. st.apart c x.1.0 d y.1.0 lc ld x.1.1 y.1.1 (x.1.2 ∙ e ∙ sym y.1.2)) v)
      u

  total' : sum_to n (λ c. length (shifted L a p b q c)) ≡ sum_to n (λ c. length (L c))
  total' =
      let mid : ℕ → ℕ = λ c. length (cond (eqb c a) (remove (L a) p) (L c)) in
      let midb : mid b ≡ length (L b) = ap length (cond-false (eqb b a) _ _ (ne_eqb b a (λ x. ne (sym x)))) in
      let one : sum_to n (λ c. length (cond (eqb c a) (remove (L a) p) (L c))) + 1 ≡ sum_to n (λ c. length (L c)) =
      sum_less n a (λ c. length (L c)) (λ c. length (cond (eqb c a) (remove (L a) p) (L c))) la
      (ap (λ t. length t + 1) (cond-true (eqb a a) _ _ (eq-eqb a a refl)) ∙ length-remove (L a) p hp)
      (λ c nc. ap length (cond-false (eqb c a) _ _ (ne_eqb c a nc))) in
      let two : sum_to n (λ c. length (cond (eqb c a) (remove (L a) p) (L c))) + 1 ≡ sum_to n (λ c. length (shifted L a p b q c)) =
      sum_less n b (λ c. length (shifted L a p b q c)) (λ c. length (cond (eqb c a) (remove (L a) p) (L c))) lb
      (ap (λ m. m + 1) midb ∙ sym (ap length (shifted_b L a p b q ne) ∙ length-insert (L b) q (get_or (L a) p 0) hq))
      (λ c nc. ap (λ t. length (cond (eqb c a) (remove (L a) p) t)) (sym (cond-false (eqb c b) _ _ (ne_eqb c b nc)))) in
      sym two ∙ one

  pub strung_shifted : Strung n (relinked n ps (get_or (L a) p 0) (slot_of n a (prior (L a) p)) (slot_of n b (prior (L b) q))) (shifted L a p b q)
  strung_shifted =
      let ps' = relinked n ps (get_or (L a) p 0) (slot_of n a (prior (L a) p)) (slot_of n b (prior (L b) q)) in
      let len : length ps' ≡ length ps = length-set _ _ _ ∙ length-set _ _ _ ∙ length-set _ _ _ in
      let inn : (c k : ℕ) → c < n → k < length (L c) → (0 < get_or (L c) k 0) × (n + get_or (L c) k 0 ≤ length ps') =
      λ c k lc hk. let i = st.inside c k lc hk in (i.0, subst (λ m. n + get_or (L c) k 0 ≤ m) (sym len) i.1) in
      let was : (d r : ℕ) → r < length (shifted L a p b q d) → d < n → Was d (get_or (shifted L a p b q d) r 0) =
      λ c r hr lc. by_shift L a p b q (λ d is. d < n → (r : ℕ) → r < length is → Was d (get_or is r 0)) ne
      (λ _. each_removed (Was a) (L a) p hp (λ k hk kp. stays a k hk (λ e. kp (distinct n ps L st a k p la hk hp e))))
      (λ _. each_inserted (Was b) (L b) q (get_or (L a) p 0) hq comes (λ k hk. stays b k hk (other b k lb hk (λ e. ne (sym e)))))
      (λ d na nb ld r hr. stays d r hr (other d r ld hr na)) c lc r hr in
      record {
        points = λ c r lc hr. by_shift L a p b q (λ d is. d < n → (r : ℕ) → r ≤ length is → get_or ps' (slot_of n d (prior is r)) 0 ≡ get_or is r 0) ne
            (λ _. points_a n ps L st a p b q la lb ne hp hq) (λ _. points_b n ps L st a p b q la lb ne hp hq)
            (λ d na nb ld r hr. at_else n ps L st a p b q la lb ne hp hq d r ld hr (λ e. absurd (na e)) (λ e. absurd (nb e))) c lc r hr;
        inside = λ c r lc hr. by_shift L a p b q (λ d is. d < n → (r : ℕ) → r < length is → (0 < get_or is r 0) × (n + get_or is r 0 ≤ length ps')) ne
            (λ _. each_removed (λ i. (0 < i) × (n + i ≤ length ps')) (L a) p hp (λ k hk _. inn a k la hk))
            (λ _. each_inserted (λ i. (0 < i) × (n + i ≤ length ps')) (L b) q (get_or (L a) p 0) hq (inn a p la hp) (λ k hk. inn b k lb hk))
            (λ d na nb ld r hr. inn d r ld hr) c lc r hr;
        apart = λ c k d r lc ld hk hr e. was_apart c d _ _ lc ld e (was c k hk lc) (was d r hr ld);
        total = ap (λ m. n + m) total' ∙ st.total ∙ sym len;
      }
