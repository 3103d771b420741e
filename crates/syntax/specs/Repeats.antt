-- One thing after another, as many as come.
use Rattle.std.specs.Prelude.{ℕ, zero, suc, Some, None, Ok, Err, Option, Result}
use Rattle.faults.specs.declared.Fault.{Fault}

-- A thing that has been found.
abbrev pub some : {S : Type 0} → Result S Fault → Result (Option S) Fault
some (Ok s) = Ok (Some s)
some (Err f) = Err f

-- Where no thing more comes the state stands; else it goes on from there.
abbrev pub onward : {S : Type 0} → (S → Result S Fault) → S → Result (Option S) Fault → Result S Fault
onward go s (Err f) = Err f
onward go s (Ok None) = Ok s
onward go s (Ok (Some t)) = go t

-- At most so many things, one after another; the count is always given large enough.
unfoldable pub repeated : {S : Type 0} → (S → Result (Option S) Fault) → ℕ → S → Result S Fault
repeated one zero s = Ok s
repeated one (suc n) s = onward (repeated one n) s (one s)
