-- What a store with rows side by side means.
use Rattle.std.specs.Prelude.{ℕ, ◌-◌, ◌*◌, List, take, drop, slice_index}
use Rattle.store.specs.declared.Entry.{Entry}
use Rattle.store.specs.Meaning.{Meaning, storing}

-- Part u, from 0, has its rows side by side from place u * limit on, as many as its count says.
abbrev pub part : ℕ → List ℕ → List Entry → ℕ → List Entry
part limit counts slots u = take (slice_index counts u) (drop (u * limit) slots)

-- Table t is part t - 1.
abbrev pub meant : ℕ → List ℕ → List Entry → Meaning
meant limit counts slots = storing limit (λ t. part limit counts slots (t - 1))
