-- What is answered for a text, up to its names.
use Rattle.std.specs.Prelude.{ℕ, cond, List, length, Some, None, Ok, Err, Option, Result, nat_le}
use Rattle.faults.specs.declared.Fault.{Fault}
use Rattle.faults.specs.declared.Fault.TheVariants.{ModelTooLong, WrongName}
use Rattle.faults.specs.declared.Refusal.{Refusal}
use Rattle.faults.specs.Refusals.{refusal_of}
use Rattle.terms.specs.Pull.{and_then}
use Rattle.syntax.specs.Whole.{form_of}
use Rattle.roles.specs.declared.role.Part.{Part}
use Rattle.roles.specs.Roles.{parts_upto}
use Rattle.names.specs.Schema.{Decl, declared_in}
use Rattle.names.specs.Binding.{Names, bound_in}
use Rattle.names.specs.Faults.{wrong_in}

-- The place that a refusal tells.
abbrev pub place_of : Option Refusal → ℕ
place_of None = 0
place_of (Some r) = r.place

-- How far a text has the form of a model: up to the place of its refusal, or to its end.
abbrev pub end_of : List ℕ → Result (Unit {0}) Fault → ℕ
end_of text (Ok u) = length text
end_of text (Err f) = place_of (refusal_of f)

-- The tokens up to there with the roles of their names.
abbrev pub parts_in : List ℕ → List Part
parts_in text = parts_upto text (end_of text (form_of text))

-- The tables that they declare.
abbrev pub declared_by : List ℕ → Decl
declared_by text = declared_in text (parts_in text)

-- A name at fault refuses the text at its place.
abbrev pub unless_wrong : {A : Type 0} → Option ℕ → A → Result A Fault
unless_wrong (Some p) a = Err (WrongName p)
unless_wrong None a = Ok a

-- The 33rd variable is refused where it is first used, if that lies before the place where the form is refused; then comes the
-- form, and then the first name at fault.
abbrev pub named_within : List ℕ → Result Names Fault
named_within text =
    and_then (bound_in (declared_by text) (parts_in text)) (λ s.
    and_then (form_of text) (λ u.
    unless_wrong (wrong_in (declared_by text) s (parts_in text)) s))

-- A text of more than 16,384 bytes is refused before all else.
abbrev pub named : List ℕ → Result Names Fault
named text = cond (nat_le (length text) 16384) (named_within text) (Err ModelTooLong)
