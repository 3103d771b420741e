-- What a store with chained records means.
use Rattle.std.specs.Prelude.{ℕ, cond, List, ℤ, Ok, Err, Result}
use Rattle.chain.specs.declared.cells.Cell.{Cell}
use Rattle.chain.specs.Lists.{elements, prior}
use Rattle.store.specs.declared.Entry.{Entry}
use Rattle.store.specs.Meaning.{Meaning, storing, no_entry, holds, rank}

-- What chain t holds.
abbrev pub rows_of : List ℕ → List (Cell Entry) → ℕ → List Entry
rows_of heads cells t = elements no_entry heads cells t

-- Table t has the rows that chain t holds.
abbrev pub meant : ℕ → List ℕ → List (Cell Entry) → Meaning
meant limit heads cells = storing limit (rows_of heads cells)

-- The node before the place of key k: `Ok` where the key is there, `Err` where it would go.
abbrev pub spot : ℤ → List ℕ → List Entry → Result ℕ ℕ
spot k is rows = cond (holds k rows) (Ok (prior is (rank k rows))) (Err (prior is (rank k rows)))
