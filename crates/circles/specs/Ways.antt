-- Ways along the links of a schema.
use Rattle.std.specs.Prelude.{◌≡◌, ℕ, ◌<◌, ◌≤◌, ◌⊎◌, List, [], ◌∷◌}
use Rattle.circles.specs.declared.Link.{Link}

-- Tables are counted from 1, and there are at most eight.
abbrev pub IsTable : ℕ → ℕ → Type 0
IsTable tables t = (0 < t) × (t ≤ tables) × (t ≤ 8)

-- A link is one of those listed.
abbrev pub In : Link → List Link → Type 0
In l [] = ⊥
In l (x ∷ xs) = (x ≡ l) ⊎ In l xs

-- A link leads on from a table; both its ends are tables.
abbrev pub Follows : ℕ → ℕ → Link → Type 0
Follows tables a l = (l.from ≡ a) × IsTable tables l.from × IsTable tables l.to

-- A way from one table to another along links of those given: each starts where the one before ended.
abbrev pub Way : ℕ → List Link → ℕ → List Link → ℕ → Type 0
Way tables links a [] b = a ≡ b
Way tables links a (l ∷ ls) b = In l links × Follows tables a l × Way tables links l.to ls b

-- One or more links lead from one table to another.
abbrev pub Leads : ℕ → List Link → ℕ → ℕ → Type 0
Leads tables links a b = (first : Link) × (rest : List Link) × Way tables links a (first ∷ rest) b
