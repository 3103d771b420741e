-- Places of the lines that are picked.
use Rattle.std.proofs.Common.{◌≡◌, ℕ, zero, suc, ◌-◌, ◌≤◌, Bool, List, [], ◌∷◌, map, filter, Option, refl, ap, sym, ◌∙◌, arith}
use Rattle.std.specs.List.{enumerate_from, slice_get}
use Rattle.std.specs.Option.{option_map}
use Rattle.std.proofs.lemmas.Iterator.Adapters.{option_map_id}
use Rattle.meaning.specs.Schema.{places}
use Rattle.model.specs.Names.{by_number}

-- The numbers of those that are picked, each beside its number, are their places.
pub places-picked : {X : Type 0} (p : X → Bool) (n : ℕ) (xs : List X) → map (λ e. e.0) (filter (λ e. p e.1) (enumerate_from n xs)) ≡ places p n xs
places-picked p n [] = refl
places-picked p n (x ∷ xs) = let behind = places-picked p (suc n) xs in grind arith

-- The element of a number that is not 0.
pub numbered : {X : Type 0} (r : Option X) (xs : List X) (n m : ℕ) → 1 ≤ n → m ≡ n - 1 → option_map (λ x. x) r ≡ slice_get xs m → r ≡ by_number xs n
numbered r xs zero m some less found = absurd (omega arith)
numbered r xs (suc n) m some less found = sym (option_map_id r) ∙ found ∙ ap (slice_get xs) (let is : m ≡ n = omega (arith, less) in is)
