-- Looking through one part after another for the first name at fault.
use Rattle.std.proofs.Common.{◌≡◌, ℕ, ◌+◌, ◌<◌, ◌≤◌, Bool, true, false, cond, List, [], ◌∷◌, length, get_or, drop, Some, None, refl, ap, ◌∙◌, arith}
use Rattle.std.proofs.lemmas.List.{at_drop_more, at_drop_all}
use Rattle.roles.specs.declared.role.Part.{Part}
use Rattle.roles.specs.Roles.{name_of}
use Rattle.names.specs.declared.binding.Bound.{Bound}
use Rattle.names.specs.declared.binding.Bound.TheVariants as bound
use Rattle.names.specs.declared.binding.Variable.{Variable}
use Rattle.names.specs.declared.faulty.Spot.{Spot}
use Rattle.names.specs.Schema.{Decl}
use Rattle.names.specs.Faults.{spot_after, wrong, wrong_from}

-- One part more.
pub looked : (d : Decl) (vs : List Variable) (s : Spot) (left : List Part) (bs : List Bound) (i : ℕ) (p : Part) (ps : List Part) → left ≡ p ∷ ps → i < length bs
    → wrong_from d vs s left (drop i bs) ≡ cond (wrong d vs s (name_of p) ps (get_or bs i bound.Free) p.role) (Some p.token.place) (wrong_from d vs (spot_after s p.role (get_or bs i bound.Free)) ps (drop (i + 1) bs))
unfolding wrong_from
looked d vs s left bs i p ps e h = ap (λ l. wrong_from d vs s l (drop i bs)) e ∙ at_drop_more (wrong_from d vs s (p ∷ ps)) bs i bound.Free h

-- No part, or nothing more that a part is bound to.
pub none_left : (d : Decl) (vs : List Variable) (s : Spot) (ps : List Part) (bs : List Bound) → length ps ≡ 0 → wrong_from d vs s ps bs ≡ None
unfolding wrong_from
none_left d vs s [] bs h = refl
none_left d vs s (p ∷ ps) bs h = absurd (omega arith)

none_bound : (d : Decl) (vs : List Variable) (s : Spot) (ps : List Part) → wrong_from d vs s ps [] ≡ None
unfolding wrong_from
none_bound d vs s [] = refl
none_bound d vs s (p ∷ ps) = refl

pub all_bound : (d : Decl) (vs : List Variable) (s : Spot) (ps : List Part) (bs : List Bound) (i : ℕ) → length bs ≤ i → wrong_from d vs s ps (drop i bs) ≡ None
all_bound d vs s ps bs i h = at_drop_all (wrong_from d vs s ps) bs i h ∙ none_bound d vs s ps

-- The counts grow by one at most.
pub few_tables : (b : Bool) (n m : ℕ) → n ≤ m → cond b (n + 1) n ≤ m + 1
few_tables true n m h = omega arith
few_tables false n m h = omega arith

pub few_fields : (a b : Bool) (n m : ℕ) → n ≤ m → cond a 0 (cond b (n + 1) n) ≤ m + 1
few_fields true b n m h = omega arith
few_fields false b n m h = few_tables b n m h
