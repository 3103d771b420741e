use Rattle.std.proofs.Common.{◌≡◌, ℕ, ◌<◌, List, get_or, map, refl, ap, ◌∙◌, arith}
use Rattle.std.specs.List.{range_with_len}
use Rattle.std.proofs.lemmas.List.FromFn.{get_or-map-range_with_len}
use Rattle.classes.specs.Bytes.{class_of}
use Rattle.classes.specs.declared.Class.{Class}
use Rattle.classes.proofs.class_of.Goals as goal

-- A table that lists what a rule says of 0, 1, 2 and so on gives the rule at each of its places.
entry : (table : List Class) (d : Class) → table ≡ map class_of (range_with_len 0 256) → (k : ℕ) → k < 256 → get_or table k d ≡ class_of k
entry table d is k h = ap (λ t. get_or t k d) is ∙ get_or-map-range_with_len class_of 0 256 k k d h (omega arith)

pub returns : goal.returns
returns c = entry _ _ refl c.args.byte (omega arith)
