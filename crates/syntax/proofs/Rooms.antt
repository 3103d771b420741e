-- One less may come: what is left of the room, or the refusal.
use Rattle.std.proofs.Common.{◌≡◌, ℕ, zero, suc, Ok, Err, Result, sym, refl, ap}
use Rattle.faults.specs.declared.Fault.{Fault}
use Rattle.faults.specs.declared.Fault.TheVariants.{LimitPassed}
use Rattle.terms.specs.declared.pull.Pulled.{Pulled}
use Rattle.terms.specs.Pull.{taken_from}
use Rattle.terms.proofs.Steps.{never}
use Rattle.syntax.specs.Tables.{with_room}

pub room_none : {A : Type 0} (n : ℕ) (p : Pulled) (f : Fault) (r : Result A Fault) → Err f ≡ taken_from n p → Err f ≡ with_room n p.place r
room_none zero p f r h = let e : f ≡ LimitPassed p.place = cc in ap Err e
room_none (suc n) p f r h = absurd (never h)

pub room_more : {A : Type 0} (n m : ℕ) (p : Pulled) (r : Result A Fault) → Ok m ≡ taken_from n p → with_room n p.place r ≡ r
room_more zero m p r h = absurd (never (sym h))
room_more (suc n) m p r h = refl

pub room_less : (n m : ℕ) (p : Pulled) → Ok m ≡ taken_from n p → n ≡ suc m
room_less zero m p h = absurd (never (sym h))
room_less (suc n) m p h = let e : m ≡ n = cc in ap suc (sym e)
