-- Which tables are reached, and which still wait to be taken up.
use Rattle.std.specs.Prelude.{◌≡◌, ℕ, ◌<◌, Bool, true, false, ◌⊎◌, List, map, Some, None, Option, slice_index_or}
use Rattle.circles.specs.declared.Link.{Link}
use Rattle.circles.specs.declared.Mark.{Mark}
use Rattle.circles.specs.declared.Mark.TheVariants.{Unseen, Reached, Begun, Taken}
use Rattle.circles.specs.Ways.{In, Follows}

-- Of some marks, which tables are reached, and which are taken up.
abbrev pub is_reached : Mark → Bool
is_reached Unseen = false
is_reached Reached = true
is_reached Begun = false
is_reached Taken = true

abbrev pub is_taken : Mark → Bool
is_taken Unseen = false
is_taken Reached = false
is_taken Begun = true
is_taken Taken = true

abbrev pub reached_of : List Mark → List Bool
reached_of marks = map is_reached marks

abbrev pub taken_of : List Mark → List Bool
taken_of marks = map is_taken marks

-- A table is marked.
abbrev pub Has : List Bool → ℕ → Type 0
Has marks t = slice_index_or marks t false ≡ true

-- One link leads from one table to another.
abbrev pub Step : ℕ → List Link → ℕ → ℕ → Type 0
Step tables links a b = (l : Link) × In l links × Follows tables a l × (l.to ≡ b)

-- What is marked after a table is taken up: what was marked, and where one link leads from it.
pub record Marked (tables : ℕ) (links : List Link) (a : ℕ) (before after : List Bool) : Type 0 where
  pub kept : (t : ℕ) → Has before t → Has after t
  pub more : (t : ℕ) → Step tables links a t → Has after t
  pub only : (t : ℕ) → Has after t → Has before t ⊎ Step tables links a t

-- A table that waits is reached and not yet taken up; where none waits, each that is reached was taken up.
abbrev pub Waits : List Bool → List Bool → Option ℕ → Type 0
Waits reached taken None = (t : ℕ) → Has reached t → Has taken t
Waits reached taken (Some t) = (t < 9) × Has reached t × (slice_index_or taken t false ≡ false)
