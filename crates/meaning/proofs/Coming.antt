-- From mark to mark: what comes next tells the path that a run follows. Assumes nothing.
use Rattle.std.proofs.Common.{◌≡◌, ℕ, cond, ◌↔◌, List, [], ◌∷◌, sym, refl, ap, subst}
use mathlib.Core.Logic.Iff
use mathlib.Core.Option.{Option, none, some}
use Rattle.meaning.specs.Values.{bind}
use Rattle.meaning.specs.Syntax.{silent, Statement, Block, stop, ◌⨾◌, ◌then◌, next, write, branch, while, target, Mark, branched, turned}
use Rattle.meaning.specs.Evaluation.{truth}
use Rattle.meaning.specs.Schema.{Schema}
use Rattle.meaning.specs.Tables.{Case}
use Rattle.meaning.specs.Writes.{perform}
use Rattle.meaning.specs.State.{State, env}
use Rattle.meaning.specs.Run.{effect, Move, goes, throws, ends, halts, fetches, ahead, some_row, step, trace}
use Rattle.meaning.specs.Following.{Coming, makes, escapes, closes, stalls, comes, advance}
use Rattle.meaning.proofs.Basics.{none_some, nil_cons, cons_nil, some_inj}
use Rattle.meaning.proofs.Moves.{Silently, each_need, each_fetches, each_concluded}
use Rattle.meaning.proofs.Moving.{From, By, from_step, by_mark, by_throw}

-- a silent statement
abbrev pub IsSilent : Statement → Type 0
IsSilent (silent x) = Unit {0}
IsSilent (next v h) = ⊥
IsSilent (write w h) = ⊥
IsSilent (branch c a b) = ⊥
IsSilent (while c a) = ⊥

module _ (S : Schema) (R : ℕ) (κ : Case) where
  -- a step without a mark is a silent statement's, and goes on with the block behind it
  pub silent_step : (P : Block → Type 0) (x : Statement) (k : Block) (s : State) → (IsSilent x → P k) → Silently P (step S R κ (x ⨾ k) s)
  silent_step P (silent x) k s f = each_need _ _ _ (effect κ x s) (goes none k) (λ s e. f tt)
  silent_step P (next v h) k s f =
      each_need _ _ _ (ahead (s.vars.cursors v)) (λ T. fetches h v k s T (some_row T)) (λ T e. each_fetches _ _ _ k (λ m s v b g. tt) h v s T (some_row T) (λ t. tt) tt tt)
  silent_step P (write w h) k s f = each_concluded _ _ _ k (λ m s v b g. tt) h (target w) s (perform S R (env s) s.tables.now w) (λ T e. tt) (λ x. (tt, tt))
  silent_step P (branch c a b) k s f = each_need _ _ _ (truth (env s) none c) (λ t. goes (some (branched t)) (cond t a b then k) s) (λ t e. tt)
  silent_step P (while c a) k s f = each_need _ _ _ (truth (env s) none c) (λ t. goes (some (turned t)) (cond t (a then (while c a ⨾ k)) k) s) (λ t e. tt)

  -- a move without a mark goes on with the block k
  abbrev pub Quiet : Block → Move → Type 0
  Quiet k = Silently (λ k'. k' ≡ k)

  pub quiet_step : (x : Statement) (k : Block) (s : State) → Quiet k (step S R κ (x ⨾ k) s)
  quiet_step x k s = silent_step (λ k'. k' ≡ k) x k s (λ h. refl)

  -- what comes next goes on to the run's end with the marks p
  abbrev pub Reach : Coming → List Mark → Type 0
  Reach (makes m k s) [] = ⊥
  Reach (makes m k s) (m' ∷ p) = (m ≡ m') × From S R κ k s p
  Reach (escapes m s) [] = ⊥
  Reach (escapes m s) (m' ∷ p) = (m ≡ m') × (p ≡ [])
  Reach (closes s) [] = Unit {0}
  Reach (closes s) (m ∷ p) = ⊥
  Reach (stalls s) p = ⊥

  reach_end : (s : State) (p : List Mark) → By S R κ ends p ↔ Reach (closes s) p
  reach_end s [] = (λ b. tt, λ u. (0, refl))
  reach_end s (m ∷ p) = (λ b. nil_cons (some_inj b.1), λ f. absurd f)

  marked_not_empty : (m : Mark) (o : Option (List Mark)) → bind o (λ q. some (m ∷ q)) ≡ some [] → ⊥
  marked_not_empty m none e = none_some e
  marked_not_empty m (some q) e = cons_nil (some_inj e)

  reach_on : (k : Block) (s : State) (M : Move) (p : List Mark) → Quiet k M → ((s' : State) → From S R κ k s' p ↔ Reach (advance S R κ k s') p) →
      By S R κ M p ↔ Reach (comes s M (advance S R κ k)) p
  reach_on k s (goes none k' s') p e rec = Iff.trans (subst (λ j. From S R κ j s' p) e, subst (λ j. From S R κ j s' p) (sym e)) (rec s')
  reach_on k s (goes (some m) k' s') [] e rec = (λ b. marked_not_empty m (trace S R κ b.0 k' s') b.1, λ f. absurd f)
  reach_on k s (goes (some m) k' s') (m' ∷ p) e rec = Iff.symm (by_mark S R κ m m' k' s' p)
  reach_on k s (throws m) [] e rec = (λ b. cons_nil (some_inj b.1), λ f. absurd f)
  reach_on k s (throws m) (m' ∷ p) e rec = Iff.symm (by_throw S R κ m m' p)
  reach_on k s ends p e rec = reach_end s p
  reach_on k s halts p e rec = (λ b. none_some b.1, λ f. absurd f)

  pub reaches : (k : Block) (s : State) (p : List Mark) → From S R κ k s p ↔ Reach (advance S R κ k s) p
  reaches stop s p = Iff.trans (Iff.symm (from_step S R κ stop s p)) (reach_end s p)
  reaches (x ⨾ k) s p = Iff.trans (Iff.symm (from_step S R κ (x ⨾ k) s p)) (reach_on k s (step S R κ (x ⨾ k) s) p (quiet_step x k s) (λ s'. reaches k s' p))

  -- ---- what comes next, by one step: a loop of steps keeps the outcome_s that is to come

  -- what comes after a move from the state s
  abbrev pub arrive : State → Move → Coming
  arrive s (goes none k s') = advance S R κ k s'
  arrive s (goes (some m) k s') = makes m k s'
  arrive s (throws m) = escapes m s
  arrive s ends = closes s
  arrive s halts = stalls s

  pub advance_by_step : (k : Block) (s : State) → advance S R κ k s ≡ arrive s (step S R κ k s)
  advance_by_step stop s = refl
  advance_by_step (x ⨾ k) s = go (step S R κ (x ⨾ k) s) (quiet_step x k s)
    where
      go : (M : Move) → Quiet k M → comes s M (advance S R κ k) ≡ arrive s M
      go (goes none k' s') e = ap (λ j. advance S R κ j s') (sym e)
      go (goes (some m) k' s') e = refl
      go (throws m) e = refl
      go ends e = refl
      go halts e = refl
