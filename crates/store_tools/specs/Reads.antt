-- What reading a table answers.
use Rattle.std.specs.Prelude.{ℕ, Bool, cond, List, ℤ, Some, None, Option, Result}
use Rattle.faults.specs.declared.Fault.{Fault}
use Rattle.store.specs.declared.Entry.{Entry}
use Rattle.store.specs.Meaning.{Meaning, is_table, unless14, holds, rank}

-- The position of key k among ascending rows, if it is there.
abbrev pub spot_of : ℤ → List Entry → Option ℕ
spot_of k rows = cond (holds k rows) (Some (rank k rows)) None

-- The position of key k in table t, if it is there.
abbrev pub position_of : Meaning → ℕ → ℤ → Result (Option ℕ) Fault
position_of m t k = unless14 (is_table t) (spot_of k (m.tables t)) t

-- Whether key k is in table t.
abbrev pub has_key : Meaning → ℕ → ℤ → Result Bool Fault
has_key m t k = unless14 (is_table t) (holds k (m.tables t)) t
