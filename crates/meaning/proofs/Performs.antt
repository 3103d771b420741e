-- What a write comes to, part by part. Assumes nothing.
use Rattle.std.proofs.Common.{◌≡◌, ℕ, sym, refl, ap, ◌∙◌, subst}
use mathlib.Core.Option.{Option, none, some}
use Rattle.meaning.specs.Values.{put}
use Rattle.meaning.specs.Syntax.{Write, target, Exception}
use Rattle.meaning.specs.Evaluation.{Env}
use Rattle.meaning.specs.Schema.{Schema}
use Rattle.meaning.specs.Tables.{Table, LawfulTables}
use Rattle.meaning.specs.Writes.{left, fitting, passes, broken, Outcome, halted, threw, stored, or_halted, settled, perform}
use Rattle.meaning.proofs.Safety.{write_lawful}

-- only a table that is stored is stored
abbrev StoredTable : Outcome → Table → Type 0
StoredTable halted X = ⊥
StoredTable (threw x) X = ⊥
StoredTable (stored T) X = T ≡ X

stored_is : (o : Outcome) (X : Table) → o ≡ stored X → StoredTable o X
stored_is o X e = subst (λ o. StoredTable o X) (sym e) refl

or_halted_lem : {A : Type 0} (o : Option A) (f : A → Outcome) (X : Table) → or_halted o f ≡ stored X → (a : A) × (o ≡ some a) × (f a ≡ stored X)
or_halted_lem none f X e = absurd (stored_is halted X e)
or_halted_lem (some a) f X e = (a, refl, e)

settled_is : (T X : Table) (o : Option Exception) → settled T o ≡ stored X → (T ≡ X) × (o ≡ none)
settled_is T X none e = (stored_is (stored T) X e, refl)
settled_is T X (some x) e = absurd (stored_is (threw x) X e)

module _ {I L A : Type 0} (S : Schema) (R : ℕ) (η : Env I L A) (now : ℕ → Table) (w : Write I L A) (X : Table) where
  -- the table is what the write leaves, and every test that fits has passed
  pub done_by : perform S R η now w ≡ stored X → (left S R η w (now (target w)) ≡ some X) × (broken (passes S η now w X) (fitting S w) ≡ some none)
  done_by e =
      let a = or_halted_lem (left S R η w (now (target w))) (λ T. or_halted (broken (passes S η now w T) (fitting S w)) (settled T)) X e in
      let b = or_halted_lem (broken (passes S η now w a.0) (fitting S w)) (settled a.0) X a.2 in
      let c = settled_is a.0 X b.0 b.2 in
      subst (λ T. (left S R η w (now (target w)) ≡ some T) × (broken (passes S η now w T) (fitting S w) ≡ some none)) c.0
      (a.1, subst (λ o. broken (passes S η now w a.0) (fitting S w) ≡ some o) c.1 b.1)

  -- and conversely, part by part
  module _ (e : left S R η w (now (target w)) ≡ some X) where
    tested : (o : Option (Option Exception)) → broken (passes S η now w X) (fitting S w) ≡ o → perform S R η now w ≡ or_halted o (settled X)
    tested o q = ap (λ k. or_halted k (λ T. or_halted (broken (passes S η now w T) (fitting S w)) (settled T))) e ∙ ap (λ o. or_halted o (settled X)) q

    pub stores : broken (passes S η now w X) (fitting S w) ≡ some none → perform S R η now w ≡ stored X
    stores q = tested (some none) q

    pub throws : (x : Exception) → broken (passes S η now w X) (fitting S w) ≡ some (some x) → perform S R η now w ≡ threw x
    throws x q = tested (some (some x)) q

    pub halts_testing : broken (passes S η now w X) (fitting S w) ≡ none → perform S R η now w ≡ halted
    halts_testing q = tested none q

  pub halts_at_once : left S R η w (now (target w)) ≡ none → perform S R η now w ≡ halted
  halts_at_once e = ap (λ k. or_halted k (λ T. or_halted (broken (passes S η now w T) (fitting S w)) (settled T))) e

  pub done_lawful : perform S R η now w ≡ stored X → LawfulTables S R now → LawfulTables S R (put now (target w) X)
  done_lawful e = let d = done_by e in write_lawful S R η now X w d.0 d.1
