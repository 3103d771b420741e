-- A shift by one place, and a part of the list after it.
use Rattle.std.proofs.Common.{◌≡◌, ℕ, suc, ◌+◌, ◌-◌, ◌<◌, ◌≤◌, List, ◌∷◌, ◌++◌, length, get_or, take, drop, set, sym, ap, ◌∙◌, ⊎_elim, arith, rules}
use Rattle.std.proofs.lemmas.List.{places, same_lists, get_or-set_same, length-take, get_or-take, get_or-drop}
use Rattle.std.proofs.lemmas.List.Edits.{get_or-remove_above}
use Rattle.std.specs.List.{copy_within}
use Rattle.std.proofs.lemmas.Bool.{cases_eq, cases_lt}
use Rattle.side_store.specs.Shifts.{opened, closed}

-- what `copy_within` and a write leave
pub opened_copied : {X : Type 0} (xs : List X) (from to : ℕ) (y : X) → from ≤ to → to < length xs → set (copy_within xs from to (from + 1)) from y ≡ opened xs from to y
opened_copied xs from to y h l = same_lists _ _ (search (rules, places)) (λ k d q. grind (arith, places, get_or-set_same, cases_eq k from))

get_d_closed : {X : Type 0} (xs : List X) (from to j : ℕ) (d : X) → from ≤ j → j + 1 < to → to ≤ length xs → get_or (closed xs from to) j d ≡ get_or xs (j + 1) d
get_d_closed xs from to j d h l w = grind (arith, places)

-- ---- a part of the list, n places from b on, after a shift inside it

module _ {X : Type 0} (xs : List X) (b at n : ℕ) where
  pub opened_part : (y : X) → at ≤ n → b + n < length xs → take (n + 1) (drop b (opened xs (b + at) (b + n) y)) ≡ take at (take n (drop b xs)) ++ y ∷ drop at (take n (drop b xs))
  opened_part y h l = same_lists _ _ (search (rules, places)) (λ k d q. grind (arith, places))

  pub opened_left : (y : X) (b' n' : ℕ) → at ≤ n → b + n < length xs → b' + n' ≤ b → take n' (drop b' (opened xs (b + at) (b + n) y)) ≡ take n' (drop b' xs)
  opened_left y b' n' h l w = same_lists _ _ (search (rules, places)) (λ k d q. grind (arith, places))

  pub opened_right : (y : X) (b' n' : ℕ) → at ≤ n → b + n < length xs → b + n + 1 ≤ b' → take n' (drop b' (opened xs (b + at) (b + n) y)) ≡ take n' (drop b' xs)
  opened_right y b' n' h l w = same_lists _ _ (search (rules, places)) (λ k d q. grind (arith, places))

  pub closed_part : at < n → b + n ≤ length xs → take (n - 1) (drop b (closed xs (b + at) (b + n))) ≡ take at (take n (drop b xs)) ++ drop (suc at) (take n (drop b xs))
  closed_part h l = same_lists _ _ (search (rules, places)) (λ k d q. ⊎_elim (λ w.
      let e : get_or (take (n - 1) (drop b (closed xs (b + at) (b + n)))) k d ≡ get_or xs (b + k) d = grind (arith, places) in
      let f : get_or (take at (take n (drop b xs)) ++ drop (suc at) (take n (drop b xs))) k d ≡ get_or xs (b + k) d = grind (arith, places) in
      e ∙ sym f) (λ w.
      let r : k < n - 1 = omega (arith, length-take (n - 1) (drop b (closed xs (b + at) (b + n))), q) in
      let e : get_or (take (n - 1) (drop b (closed xs (b + at) (b + n)))) k d ≡ get_or xs (b + k + 1) d =
      get_or-take (n - 1) (drop b (closed xs (b + at) (b + n))) k d r ∙ get_or-drop b (closed xs (b + at) (b + n)) k d ∙ get_d_closed xs (b + at) (b + n) (b + k) d (omega arith) (omega arith) l in
      let f : get_or (take at (take n (drop b xs)) ++ drop (suc at) (take n (drop b xs))) k d ≡ get_or xs (b + k + 1) d =
      get_or-remove_above (take n (drop b xs)) at d k w (search (rules, places)) ∙ get_or-take n (drop b xs) (k + 1) d (omega arith) ∙ get_or-drop b xs (k + 1) d ∙ ap (λ i. get_or xs i d) (omega arith) in
      e ∙ sym f) (cases_lt k at))

  pub closed_left : (b' n' : ℕ) → at < n → b + n ≤ length xs → b' + n' ≤ b → take n' (drop b' (closed xs (b + at) (b + n))) ≡ take n' (drop b' xs)
  closed_left b' n' h l w = same_lists _ _ (search (rules, places)) (λ k d q. grind (arith, places))

  pub closed_right : (b' n' : ℕ) → at < n → b + n ≤ length xs → b + n ≤ b' → take n' (drop b' (closed xs (b + at) (b + n))) ≡ take n' (drop b' xs)
  closed_right b' n' h l w = same_lists _ _ (search (rules, places)) (λ k d q. grind (arith, places))

pub length_opened : {X : Type 0} (xs : List X) (from to : ℕ) (y : X) → from ≤ to → to < length xs → length (opened xs from to y) ≡ length xs
length_opened xs from to y h l = search (rules, places)

pub length_closed : {X : Type 0} (xs : List X) (from to : ℕ) → from < to → to ≤ length xs → length (closed xs from to) ≡ length xs
length_closed xs from to h l = search (rules, places)
