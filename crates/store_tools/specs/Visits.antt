-- What handing on the rows of a table answers and leaves.
use Rattle.std.specs.Prelude.{ℕ, cond, List, ◌++◌, length, drop, is_ok, Ok, Err, Result, nat_lt}
use Rattle.std.specs.List.{FoldsTo}
use Rattle.faults.specs.declared.Fault.{Fault}
use Rattle.faults.specs.declared.Fault.TheVariants.{TooFew, NotThere}
use Rattle.store.specs.declared.Entry.{Entry}
use Rattle.store.specs.Meaning.{Meaning, is_table, unless14}

-- From state s to state t by taking the rows one after another, in order.
abbrev pub Visited : {V : Type 0} → (V → Entry → V → Type 0) → V → List Entry → V → Type 0
Visited takes s rows t = FoldsTo takes s rows t

-- Handing on the rows of a table is refused for no table alone.
abbrev pub visit_answer : ℕ → Result Unit Fault
visit_answer t = unless14 (is_table t) tt t

-- A copy tells how many rows there are: 14 for no table, then 9 for fewer places than rows.
abbrev pub copy_answer : Meaning → ℕ → ℕ → Result ℕ Fault
copy_answer m t room = cond (is_table t) (cond (nat_lt room (length (m.tables t))) (Err (TooFew (length (m.tables t)))) (Ok (length (m.tables t)))) (Err (NotThere t))

-- A copy that is not refused leaves the rows in front, and what lies beyond as it was; a refusal leaves all.
abbrev pub copy_after : Meaning → ℕ → List Entry → List Entry
copy_after m t out = cond (is_ok (copy_answer m t (length out))) (m.tables t ++ drop (length (m.tables t)) out) out
