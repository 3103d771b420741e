-- What making the contents of one store those of another answers and leaves.
use Rattle.std.specs.Prelude.{cond, is_ok, Ok, Err, Result, ◌==◌}
use Rattle.faults.specs.declared.Fault.{Fault}
use Rattle.faults.specs.declared.Fault.TheVariants.{BadLimit}
use Rattle.store.specs.Meaning.{Meaning}

-- A store of another limit is refused with 11.
abbrev pub copy_store_answer : Meaning → Meaning → Result Unit Fault
copy_store_answer from to = cond (to.limit == from.limit) (Ok tt) (Err (BadLimit from.limit))

-- The store then means what the other does; a refusal leaves its meaning.
abbrev pub copy_store_after : Meaning → Meaning → Meaning
copy_store_after from to = cond (is_ok (copy_store_answer from to)) from to
