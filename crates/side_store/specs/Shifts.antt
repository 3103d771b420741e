-- Lists after a shift by one place.
use Rattle.std.specs.Prelude.{ℕ, ◌+◌, ◌-◌, List, ◌∷◌, ◌++◌, take, drop}

-- xs with y at `from`, and what stood from there up to `to` one place on, over what stood at `to`.
abbrev pub opened : {X : Type 0} → List X → ℕ → ℕ → X → List X
opened xs from to y = take from xs ++ y ∷ (take (to - from) (drop from xs) ++ drop (to + 1) xs)

-- xs with what stood after `from` and before `to` one place back, over what stood at `from`.
abbrev pub closed : {X : Type 0} → List X → ℕ → ℕ → List X
closed xs from to = take from xs ++ (take (to - 1 - from) (drop (from + 1) xs) ++ drop (to - 1) xs)
