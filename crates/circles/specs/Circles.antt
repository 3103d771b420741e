-- Circles among the links of a schema.
use Rattle.std.specs.Prelude.{ℕ, ◌<◌, List, Some, None, Option}
use Rattle.circles.specs.declared.Link.{Link}
use Rattle.circles.specs.Ways.{Leads}

-- A table is on a circle: one or more links lead from it back to it.
abbrev pub OnCircle : ℕ → List Link → ℕ → Type 0
OnCircle tables links t = Leads tables links t t

-- No table is on a circle.
abbrev pub NoCircle : ℕ → List Link → Type 0
NoCircle tables links = (t : ℕ) → OnCircle tables links t → ⊥

-- The first table on a circle: none before it is on one.
abbrev pub First : ℕ → List Link → ℕ → Type 0
First tables links t = OnCircle tables links t × ((u : ℕ) → u < t → OnCircle tables links u → ⊥)

-- The answer is the first table on a circle; no answer says that no table is on one.
abbrev pub Answers : ℕ → List Link → Option ℕ → Type 0
Answers tables links None = NoCircle tables links
Answers tables links (Some t) = First tables links t
