-- Chains at the start: every node is free.
use Rattle.std.proofs.Common.{◌≡◌, ℕ, zero, suc, ◌+◌, ◌-◌, ◌<◌, ◌≤◌, List, [], ◌++◌, length, get_or, refl, ap, ◌∙◌, arith}
use Rattle.std.proofs.lemmas.List.{get_or_append_left, get_or-append_right, length-append}
use Rattle.chain.specs.Lists.{slot_of, prior, nodes, sum_to, nodes_from, up_to}
use Rattle.chain.proofs.Links.{Strung, slot_node, nodes_are}
use Rattle.chain.proofs.Elements.{canonical}

length_from : (i n : ℕ) → length (nodes_from i n) ≡ n
length_from i zero = refl
length_from i (suc n) = ap suc (length_from (suc i) n)

get_d_from : (i n k : ℕ) → k < n → get_or (nodes_from i n) k 0 ≡ i + k
get_d_from i zero k h = absurd (omega arith)
get_d_from i (suc n) zero h = omega arith
get_d_from i (suc n) (suc k) h = let r = get_d_from (suc i) n k (omega arith) in omega arith

pub length_up_to : (n : ℕ) → length (up_to n) ≡ n
length_up_to n = length_from 1 n

pub get_d_up_to : (n k : ℕ) → k < n → get_or (up_to n) k 0 ≡ k + 1
get_d_up_to n k h = let r = get_d_from 1 n k h in omega arith

-- chain 0 has all n nodes
fresh : ℕ → ℕ → List ℕ
fresh n zero = up_to n
fresh n (suc c) = []

sum_fresh : (N n : ℕ) → 0 < n → sum_to n (λ c. length (fresh N c)) ≡ N
unfolding fresh
sum_fresh N zero h = absurd (omega arith)
sum_fresh N (suc zero) h = omega (arith, length_up_to N)
sum_fresh N (suc (suc n)) h = let r = sum_fresh N (suc n) (omega arith) in omega arith

module _ (heads nexts : List ℕ) (some : 0 < length heads) (first : get_or heads 0 0 ≡ get_or (up_to (length nexts)) 0 0)
    (others : (c : ℕ) → 0 < c → c < (length heads) → get_or heads c 0 ≡ 0) (each : (k : ℕ) → k < length nexts → get_or nexts k 0 ≡ get_or (up_to (length nexts)) (k + 1) 0) where
  heads_at : (c : ℕ) → c < (length heads) → get_or (heads ++ nexts) c 0 ≡ get_or heads c 0
  heads_at c lt = get_or_append_left heads nexts 0 c (omega arith)

  points_fresh : (c q : ℕ) → c < (length heads) → q ≤ length (fresh (length nexts) c) → get_or (heads ++ nexts) (slot_of (length heads) c (prior (fresh (length nexts) c) q)) 0 ≡ get_or (fresh (length nexts) c) q 0
  unfolding fresh
  points_fresh zero zero lt h = heads_at 0 lt ∙ first
  points_fresh zero (suc q) lt h =
      let l = length_up_to (length nexts) in
      let g = get_d_up_to (length nexts) q (omega arith) in
      ap (λ s. get_or (heads ++ nexts) s 0) (slot_node (length heads) 0 (get_or (up_to (length nexts)) q 0) (omega arith))
      ∙ get_or-append_right heads nexts (length heads) (length heads + (get_or (up_to (length nexts)) q 0 - 1)) 0 refl (omega arith)
      ∙ ap (λ i. get_or nexts i 0) (omega arith) ∙ each q (omega arith) ∙ ap (λ i. get_or (up_to (length nexts)) i 0) (omega arith)
  points_fresh (suc c) zero lt h = heads_at (suc c) lt ∙ others (suc c) (omega arith) lt
  points_fresh (suc c) (suc q) lt h = absurd (omega arith)

  inside_fresh : (c q : ℕ) → c < (length heads) → q < length (fresh (length nexts) c) → (0 < get_or (fresh (length nexts) c) q 0) × ((length heads) + get_or (fresh (length nexts) c) q 0 ≤ length (heads ++ nexts))
  unfolding fresh
  inside_fresh zero q lt h =
      let l = length_up_to (length nexts) in
      let g = get_d_up_to (length nexts) q (omega arith) in
      (omega arith, omega (arith, length-append heads nexts))
  inside_fresh (suc c) q lt h = absurd (omega arith)

  apart_fresh : (c q d r : ℕ) → c < length heads → d < length heads → q < length (fresh (length nexts) c) → r < length (fresh (length nexts) d) → get_or (fresh (length nexts) c) q 0 ≡ get_or (fresh (length nexts) d) r 0 → c ≡ d
  unfolding fresh
  apart_fresh zero q zero r lc ld h k e = refl
  apart_fresh zero q (suc d) r lc ld h k e = absurd (omega arith)
  apart_fresh (suc c) q d r lc ld h k e = absurd (omega arith)

  total_fresh : length heads + sum_to (length heads) (λ c. length (fresh (length nexts) c)) ≡ length (heads ++ nexts)
  total_fresh = omega (arith, length-append heads nexts, sum_fresh (length nexts) (length heads) some)

  strung_fresh : Strung (length heads) (heads ++ nexts) (fresh (length nexts))
  strung_fresh = record { points = points_fresh; inside = inside_fresh; apart = apart_fresh; total = total_fresh }

  pub all_free : Strung (length heads) (heads ++ nexts) (nodes (length heads) (heads ++ nexts))
  all_free = canonical (length heads) (heads ++ nexts) (fresh (length nexts)) strung_fresh

  pub none_used : (c : ℕ) → 0 < c → c < (length heads) → nodes (length heads) (heads ++ nexts) c ≡ []
  unfolding fresh
  none_used zero lo hi = absurd (omega arith)
  none_used (suc c) lo hi = nodes_are (length heads) (heads ++ nexts) (fresh (length nexts)) strung_fresh (suc c) hi

  pub free_all : length (nodes (length heads) (heads ++ nexts) 0) ≡ length nexts
  unfolding fresh
  free_all = ap length (nodes_are (length heads) (heads ++ nexts) (fresh (length nexts)) strung_fresh 0 some) ∙ length_up_to (length nexts)
