-- A run follows at most one path. Assumes nothing.
use Rattle.std.proofs.Common.{◌≡◌, ℕ, zero, suc, ◌+◌, List, ◌∷◌, sym, refl, ap, ◌∙◌, add-zero, add-suc, add_comm}
use mathlib.Core.Option.{Option, none, some}
use Rattle.meaning.specs.Values.{bind}
use Rattle.meaning.specs.Syntax.{Block, Mark}
use Rattle.meaning.specs.Schema.{Schema, Model}
use Rattle.meaning.specs.Tables.{Case}
use Rattle.meaning.specs.State.{State, start}
use Rattle.meaning.specs.Run.{Move, goes, throws, ends, halts, step, followed, trace, Follows}
use Rattle.meaning.proofs.Basics.{none_some, some_inj}

module _ (S : Schema) (R : ℕ) (κ : Case) where
  more : (f g : Block → State → Option (List Mark)) → ((k : Block) (s : State) (p : List Mark) → f k s ≡ some p → g k s ≡ some p) →
      (M : Move) (p : List Mark) → followed S R κ f M ≡ some p → followed S R κ g M ≡ some p
  more f g h (goes none k s) p e = h k s p e
  more f g h (goes (some m) k s) p e = go (f k s) refl e
    where
      go : (o : Option (List Mark)) → f k s ≡ o → bind o (λ q. some (m ∷ q)) ≡ some p → bind (g k s) (λ q. some (m ∷ q)) ≡ some p
      go none q z = absurd (none_some z)
      go (some r) q z = rw (h k s r q) z
  more f g h (throws m) p e = e
  more f g h ends p e = e
  more f g h halts p e = e

  longer : (n : ℕ) (k : Block) (s : State) (p : List Mark) → trace S R κ n k s ≡ some p → trace S R κ (suc n) k s ≡ some p
  longer zero k s p e = absurd (none_some e)
  longer (suc n) k s p e = more (trace S R κ n) (trace S R κ (suc n)) (longer n) (step S R κ k s) p e

  long : (j n : ℕ) (k : Block) (s : State) (p : List Mark) → trace S R κ n k s ≡ some p → trace S R κ (n + j) k s ≡ some p
  long zero n k s p e = rw add-zero e
  long (suc j) n k s p e = rw add-suc (longer (n + j) k s p (long j n k s p e))

-- a run follows at most one path
pub one_path : (M : Model) (R : ℕ) (κ : Case) (p q : List Mark) → Follows M R κ p → Follows M R κ q → p ≡ q
one_path M R κ p q f g =
    let s : State = start M.schema κ in
    some_inj (sym (long M.schema R κ g.0 f.0 M.program s p f.1) ∙ ap (λ n. trace M.schema R κ n M.program s) (add_comm f.0 g.0) ∙ long M.schema R κ f.0 g.0 M.program s q g.1)
