-- The steps of a loop that takes one thing after another.
use Rattle.std.proofs.Common.{◌≡◌, ℕ, zero, suc, ◌-◌, ◌<◌, Some, None, Ok, Err, Option, Result, sym, refl, ap, ◌∙◌, subst, arith}
use Rattle.faults.specs.declared.Fault.{Fault}
use Rattle.syntax.specs.Repeats.{onward, repeated}

module _ {S : Type 0} (one : S → Result (Option S) Fault) where
  -- No thing more comes.
  pub repeated_none : (n : ℕ) (s : S) → one s ≡ Ok None → repeated one n s ≡ Ok s
  unfolding repeated
  repeated_none zero s h = refl
  repeated_none (suc n) s h = ap (onward (repeated one n) s) h

  -- The next thing is refused.
  pub repeated_refused : (n : ℕ) (s : S) (f : Fault) → 0 < n → one s ≡ Err f → repeated one n s ≡ Err f
  unfolding repeated
  repeated_refused zero s f h e = absurd (omega arith)
  repeated_refused (suc n) s f h e = ap (onward (repeated one n) s) e

  -- One thing more.
  pub repeated_some : (n : ℕ) (s t : S) → 0 < n → one s ≡ Ok (Some t) → repeated one n s ≡ repeated one (n - 1) t
  unfolding repeated
  repeated_some zero s t h e = absurd (omega arith)
  repeated_some (suc n) s t h e = ap (onward (repeated one n) s) e ∙ (let k : n ≡ suc n - 1 = omega arith in ap (λ m. repeated one m t) k)

-- A loop whose state grows smaller has gone from one state to another, and what is left gives what the whole gives.
pub record Going {S : Type 0} (one : S → Result (Option S) Fault) (size : S → ℕ) (n : ℕ) (from now : S) : Type 0 where
  pub left : ℕ
  pub enough : size now < left
  pub same : repeated one left now ≡ repeated one n from

module _ {S : Type 0} (one : S → Result (Option S) Fault) (size : S → ℕ) (n : ℕ) (from : S) where
  pub going_start : size from < n → Going one size n from from
  going_start h = record { left = n; enough = h; same = refl }

  pub going_more : (s t : S) → Going one size n from s → one s ≡ Ok (Some t) → size t < size s → Going one size n from t
  going_more s t g e h =
      let enough = g.enough in
      record {
        left = g.left - 1;
        enough = omega arith;
        same = sym (repeated_some one g.left s t (omega arith) e) ∙ g.same;
      }

  pub going_none : (s : S) → Going one size n from s → one s ≡ Ok None → repeated one n from ≡ Ok s
  going_none s g e = sym g.same ∙ repeated_none one g.left s e

  pub going_refused : (s : S) (f : Fault) → Going one size n from s → one s ≡ Err f → repeated one n from ≡ Err f
  going_refused s f g e = let enough = g.enough in sym g.same ∙ repeated_refused one g.left s f (omega arith) e

-- What holds of a state and itself, and one thing earlier where it holds, holds of the first state and the last.
module _ {S : Type 0} (one : S → Result (Option S) Fault) (P : S → S → Type 0) (stay : (s : S) → P s s) (step : (s t r : S) → one s ≡ Ok (Some t) → P t r → P s r) where
  onward_ok : (go : S → Result S Fault) → ((s r : S) → go s ≡ Ok r → P s r) → (s r : S) (o : Result (Option S) Fault) → one s ≡ o → onward go s o ≡ Ok r → P s r
  onward_ok go ih s r (Err f) is h = let z : ◌≡◌ {A = ℕ} 0 1 = cc in absurd (omega arith)
  onward_ok go ih s r (Ok None) is h = let e : s ≡ r = cc in subst (P s) e (stay s)
  onward_ok go ih s r (Ok (Some t)) is h = step s t r is (ih t r h)

  pub repeated_ok : (n : ℕ) (s r : S) → repeated one n s ≡ Ok r → P s r
  unfolding repeated
  repeated_ok zero s r h = let e : s ≡ r = cc in subst (P s) e (stay s)
  repeated_ok (suc n) s r h = onward_ok (repeated one n) (repeated_ok n) s r (one s) refl h
