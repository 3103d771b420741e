-- What a test of a mark tells, and what a new mark leaves of all marks.
use Rattle.std.proofs.Common.{◌≡◌, ℕ, ◌<◌, Bool, true, false, List, length, set, map, refl, ap, ◌∙◌, sym, Some, None, Option, MatchOption, ⊎_elim, arith}
use denote.Enum.Bare.{sameb}
use Rattle.std.specs.List.{AllWithin, HoldsAt}
use Rattle.std.proofs.lemmas.Bool.{true≢false, false≢true, cases_lt}
use Rattle.std.proofs.lemmas.List.{get_or-map, map-set, length-map, get_or_past}
use Rattle.circles.specs.contracts.Mark.{the_type}
use Rattle.circles.specs.declared.Mark.{Mark}
use Rattle.circles.specs.declared.Mark.TheVariants.{Unseen, Reached, Begun, Taken}
use Rattle.circles.specs.Visits.{is_reached, is_taken, reached_of, taken_of, Waits}

-- A mark that has a flag gives the list of flags that one.
pub now_true : (flag : Mark → Bool) (marks : List Mark) (i : ℕ) (m : Mark) → flag m ≡ true → map flag (set marks i m) ≡ set (map flag marks) i true
now_true flag marks i m e = map-set flag marks i m ∙ ap (set (map flag marks) i) e

-- A mark that waits, and one that does not.
abbrev pub IsWaiting : Mark → Type 0
IsWaiting m = (is_reached m ≡ true) × (is_taken m ≡ false)

abbrev pub IsDone : Mark → Type 0
IsDone m = is_reached m ≡ true → is_taken m ≡ true

pub waiting_yes : (m : Mark) → true ≡ sameb the_type m Reached → IsWaiting m
waiting_yes Unseen e = absurd (true≢false e)
waiting_yes Reached e = (refl, refl)
waiting_yes Begun e = absurd (true≢false e)
waiting_yes Taken e = absurd (true≢false e)

pub waiting_no : (m : Mark) → false ≡ sameb the_type m Reached → IsDone m
waiting_no Unseen e = λ h. absurd (false≢true h)
waiting_no Reached e = absurd (false≢true e)
waiting_no Begun e = λ h. refl
waiting_no Taken e = λ h. refl

-- The first mark that waits, or none.
pub first_waits : (marks : List Mark) (r : Option ℕ) → length marks ≡ 9 → MatchOption r (AllWithin IsDone marks 0 (length marks)) (λ i. (i < length marks) × HoldsAt IsWaiting marks i × AllWithin IsDone marks 0 i) → Waits (reached_of marks) (taken_of marks) r
first_waits marks None n all = λ t h. ⊎_elim
    (λ below. get_or-map is_taken marks t Unseen false below ∙ all t Unseen (omega arith) below (sym (get_or-map is_reached marks t Unseen false below) ∙ h))
    (λ past. absurd (false≢true (sym (get_or_past (reached_of marks) t false (omega (arith, length-map marks is_reached))) ∙ h)))
    (cases_lt t (length marks))
first_waits marks (Some i) n found =
    let is = found.1 Unseen in
    (omega arith, get_or-map is_reached marks i Unseen false found.0 ∙ is.0, get_or-map is_taken marks i Unseen false found.0 ∙ is.1)
