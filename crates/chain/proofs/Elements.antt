-- What the chains hold, after a node was taken from the free ones or given back to them.
use Rattle.std.proofs.Common.{◌≡◌, ℕ, zero, suc, ◌+◌, ◌-◌, ◌<◌, ◌≤◌, List, [], ◌∷◌, ◌++◌, map, length, get_or, take, drop, set, sym, refl, ap, ◌∙◌, subst, ⊎_elim, zero-le, arith}
use Rattle.std.specs.List.{insert, remove}
use Rattle.std.proofs.lemmas.List.{length-map, map-append, take-map, drop-map, get_or-set_same, get_or-set_other, get_or_past}
use Rattle.std.proofs.lemmas.List.Edits.{length-insert, length-remove}
use Rattle.std.proofs.lemmas.Bool.{cases_lt}
use Rattle.chain.specs.declared.cells.Cell.{Cell}
use Rattle.chain.specs.Lists.{slot_of, prior, nodes, relinked, pointers, Sound, nodes_of, elements, free, Before}
use Rattle.chain.proofs.Slots.{length_pointers}
use Rattle.chain.proofs.Links.{Strung, shifted, nodes_are, strung_shifted, shifted_a, shifted_b, shifted_else, sum_same, sum_term}

-- the lists are those that a walk gives
pub canonical : (n : ℕ) (ps : List ℕ) (L : ℕ → List ℕ) → Strung n ps L → Strung n ps (nodes n ps)
canonical n ps L st =
    let is : (c : ℕ) → c < n → L c ≡ nodes n ps c = λ c lt. sym (nodes_are n ps L st c lt) in
    record {
      points = λ c q lt. subst (λ l. q ≤ length l → get_or ps (slot_of n c (prior l q)) 0 ≡ get_or l q 0) (is c lt) (st.points c q lt);
      inside = λ c q lt. subst (λ l. q < length l → (0 < get_or l q 0) × (n + get_or l q 0 ≤ length ps)) (is c lt) (st.inside c q lt);
      apart = λ c q d r lc ld hq hr e. st.apart c q d r lc ld (subst (λ l. q < length l) (sym (is c lc)) hq) (subst (λ l. r < length l) (sym (is d ld)) hr) (ap (λ l. get_or l q 0) (is c lc) ∙ e ∙ sym (ap (λ l. get_or l r 0) (is d ld)));
      total = ap (λ m. n + m) (sym (sum_same n (λ c. length (L c)) (λ c. length (nodes n ps c)) (λ c lt. ap length (is c lt)))) ∙ st.total;
    }

pub strung : {X : Type 0} {heads : List ℕ} {cells : List (Cell X)} → Sound heads cells → Strung (length heads) (pointers heads cells) (nodes (length heads) (pointers heads cells))
strung s = record {
  points = λ c q lt h. s.leads (c, q) (lt, h);
  inside = λ c q lt h. s.inside (c, q) (lt, h);
  apart = λ c q d r lc ld hq hr e. s.apart (c, q, d, r) (lc, ld, hq, hr) e;
  total = s.total;
}

pub sound_from : {X : Type 0} {heads : List ℕ} {cells : List (Cell X)} → Strung (length heads) (pointers heads cells) (nodes (length heads) (pointers heads cells)) → Sound heads cells
sound_from st = record {
  leads = λ i h. st.points i.0 i.1 h.0 h.1;
  inside = λ i h. st.inside i.0 i.1 h.0 h.1;
  apart = λ i h e. st.apart i.0 i.1 i.2 i.3 h.0 h.1 h.2 h.3 e;
  total = st.total;
}

-- a node that stands before a place is one, or 0
pub prior_in : (n N : ℕ) (ps : List ℕ) (L : ℕ → List ℕ) → Strung n ps L → length ps ≡ n + N → (c p : ℕ) → c < n → p ≤ length (L c) → prior (L c) p ≤ N
prior_in n N ps L st long c zero lt h = zero-le
prior_in n N ps L st long c (suc p) lt h = let i = st.inside c p lt h in omega (arith, i.1)

-- what stands at a place is a node, or 0 at the end
pub place_in : (n N : ℕ) (ps : List ℕ) (L : ℕ → List ℕ) → Strung n ps L → length ps ≡ n + N → (c p : ℕ) → c < n → get_or (L c) p 0 ≤ N
place_in n N ps L st long c p lt = ⊎_elim (λ h. let i = st.inside c p lt h in omega (arith, i.1)) (λ h. omega (arith, get_or_past (L c) p 0 h)) (cases_lt p (length (L c)))

-- 0 at a place is past the end, and a node is not
pub place_end : (n : ℕ) (ps : List ℕ) (L : ℕ → List ℕ) → Strung n ps L → (c p : ℕ) → c < n → get_or (L c) p 0 ≡ 0 → length (L c) ≤ p
place_end n ps L st c p lt e = ⊎_elim (λ h. absurd (omega (arith, (st.inside c p lt h).0, e))) (λ h. h) (cases_lt p (length (L c)))

pub place_some : (L : ℕ → List ℕ) (c p : ℕ) → 0 < get_or (L c) p 0 → p < length (L c)
place_some L c p h = ⊎_elim (λ l. l) (λ l. absurd (omega (arith, get_or_past (L c) p 0 l))) (cases_lt p (length (L c)))

pub list_short : (n N : ℕ) (ps : List ℕ) (L : ℕ → List ℕ) → Strung n ps L → length ps ≡ n + N → (c : ℕ) → c < n → length (L c) ≤ N
list_short n N ps L st long c lt = let t = sum_term n c (λ i. length (L i)) lt in omega (arith, st.total)

-- ---- values at nodes

abbrev pub at : {X : Type 0} → X → List X → List ℕ → List X
at d vals is = map (λ i. get_or vals (i - 1) d) is

map_like : {X : Type 0} (f g : ℕ → X) (is : List ℕ) → ((k : ℕ) → k < length is → f (get_or is k 0) ≡ g (get_or is k 0)) → map f is ≡ map g is
map_like f g [] h = refl
map_like f g (i ∷ is) h = ap (λ x. x ∷ map f is) (h 0 (omega arith)) ∙ ap (λ t. g i ∷ t) (map_like f g is (λ k l. h (suc k) (omega arith)))

map_inserted : {X : Type 0} (f : ℕ → X) (is : List ℕ) (q i : ℕ) → map f (insert is q i) ≡ insert (map f is) q (f i)
map_inserted f is q i = map-append f (take q is) (i ∷ drop q is) ∙ ap (λ t. t ++ f i ∷ map f (drop q is)) (sym (take-map f q is)) ∙ ap (λ t. take q (map f is) ++ f i ∷ t) (sym (drop-map f q is))

map_removed : {X : Type 0} (f : ℕ → X) (is : List ℕ) (p : ℕ) → map f (remove is p) ≡ remove (map f is) p
map_removed f is p = map-append f (take p is) (drop (suc p) is) ∙ ap (λ t. t ++ map f (drop (suc p) is)) (sym (take-map f p is)) ∙ ap (λ t. take p (map f is) ++ t) (sym (drop-map f (suc p) is))

-- a write at a node that is not among them
pub at_other : {X : Type 0} (d : X) (vals : List X) (x : ℕ) (v : X) (is : List ℕ) → 0 < x → ((k : ℕ) → k < length is → (0 < get_or is k 0) × (get_or is k 0 ≡ x → ⊥)) → at d (set vals (x - 1) v) is ≡ at d vals is
at_other d vals x v is h each = map_like _ _ is (λ k l. let e = each k l in get_or-set_other vals (x - 1) (get_or is k 0 - 1) v d (λ q. e.1 (omega (arith, e.0, q))))

module _ {X : Type 0} (n : ℕ) (ps ps' : List ℕ) (vals : List X) (st : Strung n ps (nodes n ps)) (long : length ps ≡ n + length vals) (c node p : ℕ) (from : 0 < c) (to : c < n) where
  pub pushed : (v : X) → p ≤ length (nodes n ps c) → node ≡ prior (nodes n ps c) p → 0 < length (nodes n ps 0)
      → ps' ≡ relinked n ps (get_or ps 0 0) 0 (slot_of n c node)
      → Strung n ps' (nodes n ps')
      × ((d : X) → at d (set vals (get_or ps 0 0 - 1) v) (nodes n ps' c) ≡ insert (at d vals (nodes n ps c)) p v)
      × ((e : ℕ) (d : X) → 0 < e → e < n → (e ≡ c → ⊥) → at d (set vals (get_or ps 0 0 - 1) v) (nodes n ps' e) ≡ at d vals (nodes n ps e))
      × (length (nodes n ps' 0) + 1 ≡ length (nodes n ps 0))
  pushed v hp node_is some is =
      let L = nodes n ps in
      let x : get_or ps 0 0 ≡ get_or (nodes n ps 0) 0 0 = st.points 0 0 (omega arith) zero-le in
      let ne : 0 ≡ c → ⊥ = omega arith in
      let r : ps' ≡ relinked n ps (get_or (nodes n ps 0) 0 0) (slot_of n 0 (prior (nodes n ps 0) 0)) (slot_of n c (prior (nodes n ps c) p)) =
      is ∙ ap (λ i. relinked n ps i 0 (slot_of n c node)) x ∙ ap (λ i. relinked n ps (get_or (nodes n ps 0) 0 0) 0 (slot_of n c i)) node_is in
      let st' : Strung n ps' (shifted (nodes n ps) 0 0 c p) = subst (λ s. Strung n s (shifted (nodes n ps) 0 0 c p)) (sym r) (strung_shifted n ps (nodes n ps) st 0 0 c p (omega arith) to ne some hp) in
      let i0 = st.inside 0 0 (omega arith) some in
      let here : nodes n ps' c ≡ insert (nodes n ps c) p (get_or (nodes n ps 0) 0 0) = nodes_are n ps' (shifted (nodes n ps) 0 0 c p) st' c to ∙ shifted_b (nodes n ps) 0 0 c p ne in
      let far : (e : ℕ) → 0 < e → e < n → (k : ℕ) → k < length (nodes n ps e) → (0 < get_or (nodes n ps e) k 0) × (get_or (nodes n ps e) k 0 ≡ get_or ps 0 0 → ⊥) =
      λ e le lt k l. ((st.inside e k lt l).0, λ q. let o = st.apart e k 0 0 lt (omega arith) l some (q ∙ x) in omega (arith, o)) in
      let vx : (d : X) → get_or (set vals (get_or ps 0 0 - 1) v) (get_or (nodes n ps 0) 0 0 - 1) d ≡ v =
      λ d. ap (λ j. get_or (set vals (get_or ps 0 0 - 1) v) (j - 1) d) (sym x) ∙ get_or-set_same vals (get_or ps 0 0 - 1) v d (omega (arith, i0.0, i0.1, x)) in
      let pos : 0 < get_or ps 0 0 = omega (arith, i0.0, x) in (
        canonical n ps' (shifted (nodes n ps) 0 0 c p) st',
        λ d. ap (at d (set vals (get_or ps 0 0 - 1) v)) here ∙ map_inserted _ (nodes n ps c) p (get_or (nodes n ps 0) 0 0)
            ∙ ap (λ t. insert t p (get_or (set vals (get_or ps 0 0 - 1) v) (get_or (nodes n ps 0) 0 0 - 1) d)) (at_other d vals (get_or ps 0 0) v (nodes n ps c) pos (far c from to))
            ∙ ap (insert (at d vals (nodes n ps c)) p) (vx d),
        λ e d le lt nc. ap (at d (set vals (get_or ps 0 0 - 1) v)) (nodes_are n ps' (shifted (nodes n ps) 0 0 c p) st' e lt ∙ shifted_else (nodes n ps) 0 0 c p e (omega arith) nc)
            ∙ at_other d vals (get_or ps 0 0) v (nodes n ps e) pos (far e le lt),
        ap (λ t. length t + 1) (nodes_are n ps' (shifted (nodes n ps) 0 0 c p) st' 0 (omega arith) ∙ shifted_a (nodes n ps) 0 0 c p) ∙ length-remove (nodes n ps 0) 0 some,
      )

  pub pulled : p < length (nodes n ps c) → node ≡ prior (nodes n ps c) p
      → ps' ≡ relinked n ps (get_or ps (slot_of n c node) 0) (slot_of n c node) 0
      → Strung n ps' (nodes n ps')
      × ((d : X) → at d vals (nodes n ps' c) ≡ remove (at d vals (nodes n ps c)) p)
      × ((e : ℕ) (d : X) → 0 < e → e < n → (e ≡ c → ⊥) → at d vals (nodes n ps' e) ≡ at d vals (nodes n ps e))
      × (length (nodes n ps' 0) ≡ length (nodes n ps 0) + 1)
  pulled hp node_is is =
      let ne : c ≡ 0 → ⊥ = omega arith in
      let x : get_or ps (slot_of n c node) 0 ≡ get_or (nodes n ps c) p 0 = ap (λ j. get_or ps (slot_of n c j) 0) node_is ∙ st.points c p to (omega arith) in
      let r : ps' ≡ relinked n ps (get_or (nodes n ps c) p 0) (slot_of n c (prior (nodes n ps c) p)) (slot_of n 0 (prior (nodes n ps 0) 0)) =
      is ∙ ap (λ i. relinked n ps i (slot_of n c node) 0) x ∙ ap (λ i. relinked n ps (get_or (nodes n ps c) p 0) (slot_of n c i) 0) node_is in
      let st' : Strung n ps' (shifted (nodes n ps) c p 0 0) = subst (λ s. Strung n s (shifted (nodes n ps) c p 0 0)) (sym r) (strung_shifted n ps (nodes n ps) st c p 0 0 to (omega arith) ne hp zero-le) in (
        canonical n ps' (shifted (nodes n ps) c p 0 0) st',
        λ d. ap (at d vals) (nodes_are n ps' (shifted (nodes n ps) c p 0 0) st' c to ∙ shifted_a (nodes n ps) c p 0 0) ∙ map_removed _ (nodes n ps c) p,
        λ e d le lt nc. ap (at d vals) (nodes_are n ps' (shifted (nodes n ps) c p 0 0) st' e lt ∙ shifted_else (nodes n ps) c p 0 0 e nc (omega arith)),
        ap length (nodes_are n ps' (shifted (nodes n ps) c p 0 0) st' 0 (omega arith) ∙ shifted_b (nodes n ps) c p 0 0 ne) ∙ length-insert (nodes n ps 0) 0 (get_or (nodes n ps c) p 0) zero-le,
      )

-- ---- the same of sound chains

module _ {X : Type 0} (heads : List ℕ) (cells : List (Cell X)) (s : Sound heads cells) where
  long : length (pointers heads cells) ≡ length heads + length cells
  long = length_pointers cells heads

  pub node_in : (c p : ℕ) → c < length heads → get_or (nodes_of heads cells c) p 0 ≤ length cells
  node_in c p lt = place_in (length heads) (length cells) (pointers heads cells) (nodes (length heads) (pointers heads cells)) (strung s) long c p lt

  pub node_end : (c p : ℕ) → c < length heads → get_or (nodes_of heads cells c) p 0 ≡ 0 → length (nodes_of heads cells c) ≤ p
  node_end c p lt e = place_end (length heads) (pointers heads cells) (nodes (length heads) (pointers heads cells)) (strung s) c p lt e

  pub node_some : (c p : ℕ) → 0 < get_or (nodes_of heads cells c) p 0 → p < length (nodes_of heads cells c)
  node_some c p h = place_some (nodes (length heads) (pointers heads cells)) c p h

  pub nodes_few : (c : ℕ) → c < length heads → length (nodes_of heads cells c) ≤ length cells
  nodes_few c lt = list_short (length heads) (length cells) (pointers heads cells) (nodes (length heads) (pointers heads cells)) (strung s) long c lt

  pub is_node : (c p : ℕ) → c < length heads → p < length (nodes_of heads cells c) → (0 < get_or (nodes_of heads cells c) p 0) × (get_or (nodes_of heads cells c) p 0 ≤ length cells)
  is_node c p lt h = ((s.inside (c, p) (lt, h)).0, node_in c p lt)

  pub before_in : (c p node : ℕ) → c < length heads → Before (nodes_of heads cells c) node p → node ≤ length cells
  before_in c p node lt (h, e) = subst (λ i. i ≤ length cells) (sym e) (prior_in (length heads) (length cells) (pointers heads cells) (nodes (length heads) (pointers heads cells)) (strung s) long c p lt h)

  -- the pointer after the node before a place leads to that place
  pub follower : (c p node : ℕ) → c < length heads → Before (nodes_of heads cells c) node p → get_or (pointers heads cells) (slot_of (length heads) c node) 0 ≡ get_or (nodes_of heads cells c) p 0
  follower c p node lt (h, e) = ap (λ i. get_or (pointers heads cells) (slot_of (length heads) c i) 0) e ∙ s.leads (c, p) (lt, h)

  pub first_node : (c : ℕ) → c < length heads → get_or (pointers heads cells) c 0 ≡ get_or (nodes_of heads cells c) 0 0
  first_node c lt = s.leads (c, 0) (lt, zero-le)

  module _ (heads' : List ℕ) (cells' : List (Cell X)) (same : length heads' ≡ length heads) (c node p : ℕ) (from : 0 < c) (to : c < length heads) where
    pub put_lists : (v : X) → Before (nodes_of heads cells c) node p → 0 < length (nodes_of heads cells 0)
        → pointers heads' cells' ≡ relinked (length heads) (pointers heads cells) (get_or (pointers heads cells) 0 0) 0 (slot_of (length heads) c node)
        → map (λ x. x.value) cells' ≡ set (map (λ x. x.value) cells) (get_or (pointers heads cells) 0 0 - 1) v
        → Sound heads' cells'
        × ((d : X) → elements d heads' cells' c ≡ insert (elements d heads cells c) p v)
        × ((e : ℕ) (d : X) → 0 < e → e < length heads → (e ≡ c → ⊥) → elements d heads' cells' e ≡ elements d heads cells e)
        × (free heads' cells' + 1 ≡ free heads cells)
    put_lists v (h, e) some is vals =
        let P : ℕ → Type 0 = λ m. Strung m (pointers heads' cells') (nodes m (pointers heads' cells'))
        × ((d : X) → at d (set (map (λ x. x.value) cells) (get_or (pointers heads cells) 0 0 - 1) v) (nodes m (pointers heads' cells') c) ≡ insert (elements d heads cells c) p v)
        × ((e : ℕ) (d : X) → 0 < e → e < length heads → (e ≡ c → ⊥) → at d (set (map (λ x. x.value) cells) (get_or (pointers heads cells) 0 0 - 1) v) (nodes m (pointers heads' cells') e) ≡ elements d heads cells e)
        × (length (nodes m (pointers heads' cells') 0) + 1 ≡ free heads cells) in
        let all : P (length heads') = subst P (sym same) (pushed (length heads) (pointers heads cells) (pointers heads' cells') (map (λ x. x.value) cells) (strung s)
        (long ∙ ap (λ m. length heads + m) (sym (length-map cells (λ x. x.value)))) c node p from to v h e some is) in (
          sound_from all.0,
          λ d. ap (λ t. at d t (nodes_of heads' cells' c)) vals ∙ all.1 d,
          λ i d lo hi ne. ap (λ t. at d t (nodes_of heads' cells' i)) vals ∙ all.2 i d lo hi ne,
          all.3,
        )

    pub take_lists : Before (nodes_of heads cells c) node p → p < length (nodes_of heads cells c)
        → pointers heads' cells' ≡ relinked (length heads) (pointers heads cells) (get_or (pointers heads cells) (slot_of (length heads) c node) 0) (slot_of (length heads) c node) 0
        → map (λ x. x.value) cells' ≡ map (λ x. x.value) cells
        → Sound heads' cells'
        × ((d : X) → elements d heads' cells' c ≡ remove (elements d heads cells c) p)
        × ((e : ℕ) (d : X) → 0 < e → e < length heads → (e ≡ c → ⊥) → elements d heads' cells' e ≡ elements d heads cells e)
        × (free heads' cells' ≡ free heads cells + 1)
    take_lists (h, e) lt is vals =
        let P : ℕ → Type 0 = λ m. Strung m (pointers heads' cells') (nodes m (pointers heads' cells'))
        × ((d : X) → at d (map (λ x. x.value) cells) (nodes m (pointers heads' cells') c) ≡ remove (elements d heads cells c) p)
        × ((e : ℕ) (d : X) → 0 < e → e < length heads → (e ≡ c → ⊥) → at d (map (λ x. x.value) cells) (nodes m (pointers heads' cells') e) ≡ elements d heads cells e)
        × (length (nodes m (pointers heads' cells') 0) ≡ free heads cells + 1) in
        let all : P (length heads') = subst P (sym same) (pulled (length heads) (pointers heads cells) (pointers heads' cells') (map (λ x. x.value) cells) (strung s)
        (long ∙ ap (λ m. length heads + m) (sym (length-map cells (λ x. x.value)))) c node p from to lt e is) in (
          sound_from all.0,
          λ d. ap (λ t. at d t (nodes_of heads' cells' c)) vals ∙ all.1 d,
          λ i d lo hi ne. ap (λ t. at d t (nodes_of heads' cells' i)) vals ∙ all.2 i d lo hi ne,
          all.3,
        )
