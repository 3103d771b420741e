-- What a reader in a text answers: what the text has from its place on, and a reader of the same text behind that.
use Rattle.std.specs.Prelude.{◌≡◌, ℕ, List, Some, None, Ok, Err, Option, Result}
use Rattle.faults.specs.declared.Fault.{Fault}
use Rattle.terms.specs.declared.pull.Pulled.{Pulled}
use Rattle.terms.specs.declared.reader.Reader.{Reader}
use Rattle.terms.specs.Pull.{pulled}

-- An answer that holds the reader behind is, with the place in that reader's stead, what the text gives; a refusal is the text's own.
abbrev pub ReadsAs : {T P : Type 0} → (T → P) → (T → Reader) → (List ℕ → ℕ → Result P Fault) → Reader → Result T Fault → Type 0
ReadsAs plain behind read r (Ok t) = (Ok (plain t) ≡ read r.text.now r.at) × ((behind t).text.now ≡ r.text.now)
ReadsAs plain behind read r (Err f) = Err f ≡ read r.text.now r.at

-- The answer is the reader behind.
abbrev pub Reads : (List ℕ → ℕ → Result ℕ Fault) → Reader → Result Reader Fault → Type 0
Reads read r answer = ReadsAs (λ s. s.at) (λ s. s) read r answer

-- The answer has a value beside the reader behind.
abbrev pub ReadsWith : {A : Type 0} → (List ℕ → ℕ → Result (A × ℕ) Fault) → Reader → Result (A × Reader) Fault → Type 0
ReadsWith read r answer = ReadsAs (λ s. (s.0, s.1.at)) (λ s. s.1) read r answer

-- The answer has two values beside it.
abbrev pub ReadsWithTwo : {A B : Type 0} → (List ℕ → ℕ → Result (A × B × ℕ) Fault) → Reader → Result (A × B × Reader) Fault → Type 0
ReadsWithTwo read r answer = ReadsAs (λ s. (s.0, s.1, s.2.at)) (λ s. s.2) read r answer

-- The answer is the reader behind, if there is one.
abbrev pub ReadsIf : (List ℕ → ℕ → Option ℕ) → Reader → Option Reader → Type 0
ReadsIf read r (Some s) = (Some s.at ≡ read r.text.now r.at) × (s.text.now ≡ r.text.now)
ReadsIf read r None = None ≡ read r.text.now r.at

-- The token that comes, and the reader behind it.
abbrev pub Pulls : Reader → Result (Pulled × Reader) Fault → Type 0
Pulls r (Ok s) = (Ok s.0 ≡ pulled r.text.now r.at) × (s.1.at ≡ s.0.end) × (s.1.text.now ≡ r.text.now)
Pulls r (Err f) = Err f ≡ pulled r.text.now r.at
