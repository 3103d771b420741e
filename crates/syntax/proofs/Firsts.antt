-- A statement that holds no block is refused where what it is made of is.
use Rattle.std.proofs.Common.{◌≡◌, ℕ, ◌-◌, List, Some, Ok, Err, refl, sym, ap, ◌∙◌}
use Rattle.faults.specs.declared.Fault.{Fault}
use Rattle.terms.specs.declared.pull.Pulled.{Pulled}
use Rattle.terms.specs.Pull.{and_then, pulled, taken_from}
use Rattle.syntax.specs.declared.statements.Holder.{Holder}
use Rattle.syntax.specs.declared.statements.First.{First}
use Rattle.syntax.specs.declared.statements.First.TheVariants.{Target, Argument, Write, Call, Nothing}
use Rattle.syntax.specs.declared.statements.First.TheVariants as first
use Rattle.syntax.specs.Statements.{first_of, simple_rest, Holding, statement_in, statement_by}
use Rattle.syntax.proofs.Rooms.{room_more}

module _ (text : List ℕ) (hold : Holding) (s : ℕ × ℕ) (p : Pulled) (m : ℕ) (room : Ok m ≡ taken_from s.1 p) (f : Fault) where
  made_refused : (begun : First) → (begun ≡ Nothing → ⊥) → ((h : Holder) → begun ≡ first.Holder h → ⊥) → Err f ≡ simple_rest text begun p.end → Err f ≡ statement_in text hold s.1 p begun
  made_refused Nothing some alone rest = absurd (some refl)
  made_refused (first.Holder h) some alone rest = absurd (alone h refl)
  made_refused Target some alone rest = ap (λ r. and_then r (λ e. Ok (Some (e, s.1 - 1)))) rest ∙ sym (room_more s.1 m p _ room)
  made_refused Argument some alone rest = ap (λ r. and_then r (λ e. Ok (Some (e, s.1 - 1)))) rest ∙ sym (room_more s.1 m p _ room)
  made_refused (Write w) some alone rest = ap (λ r. and_then r (λ e. Ok (Some (e, s.1 - 1)))) rest ∙ sym (room_more s.1 m p _ room)
  made_refused Call some alone rest = ap (λ r. and_then r (λ e. Ok (Some (e, s.1 - 1)))) rest ∙ sym (room_more s.1 m p _ room)

  pub simple_refused : (begun : First) → Ok p ≡ pulled text s.0 → begun ≡ first_of p.word → (begun ≡ Nothing → ⊥) → ((h : Holder) → begun ≡ first.Holder h → ⊥) → Err f ≡ simple_rest text begun p.end → Err f ≡ statement_by text hold s
  simple_refused begun came is some alone rest =
      made_refused begun some alone rest
      ∙ ap (statement_in text hold s.1 p) is
      ∙ ap (λ r. and_then r (λ q. statement_in text hold s.1 q (first_of q.word))) came
