-- Following and tracing by single steps: what is to come stays the same over a step without a mark. Assumes nothing.
use Rattle.std.proofs.Common.{◌≡◌, ℕ, zero, suc, ◌<◌, true, false, List, [], ◌∷◌, refl, ap, ◌∙◌, subst, arith}
use mathlib.Core.Option.{none, some}
use Rattle.meaning.specs.Syntax.{silent, Statement, ◌⨾◌, next, write, branch, while, Block, Mark, branched, turned, fetched, wrote, K, F, C, D}
use Rattle.meaning.specs.Schema.{Schema}
use Rattle.meaning.specs.Tables.{Case}
use Rattle.meaning.specs.Folds.{until_mark}
use Rattle.meaning.specs.State.{State}
use Rattle.meaning.specs.Run.{Move, goes, throws, ends, halts, step, at_end, uncaught, halting, leaving, cut_off}
use Rattle.meaning.specs.Following.{advance, follows, departs, halted, closing, further, thrown_at, at_path_end, at_mark, follow, ended, threw, stalled, cut, finishing, preceded, at_full, at_room, trace_from}
use Rattle.meaning.specs.Letters.{letters, mark_of}
use Rattle.meaning.specs.Paths.{same_mark}
use Rattle.meaning.proofs.Moves.{Silently}
use Rattle.meaning.proofs.Coming.{IsSilent, silent_step, arrive, advance_by_step}

module _ (S : Schema) (R : ℕ) (κ : Case) (k : Block) (s : State) where
  advanced : (M : Move) → step S R κ k s ≡ M → advance S R κ k s ≡ arrive S R κ s M
  advanced M e = advance_by_step S R κ k s ∙ ap (arrive S R κ s) e

  -- ---- following

  -- no mark: nothing that is to come changes
  pub follow_on : (p : List Mark) (k' : Block) (s' : State) → step S R κ k s ≡ goes none k' s' → follow S R κ p k s ≡ follow S R κ p k' s'
  follow_on [] k' s' e = ap at_path_end (advanced (goes none k' s') e)
  follow_on (m ∷ p) k' s' e = ap (at_mark m p (follow S R κ p)) (advanced (goes none k' s') e)

  module _ (m m' : Mark) (p : List Mark) where
    -- the path's next mark: one more is agreed
    pub follow_agrees : (k' : Block) (s' : State) → step S R κ k s ≡ goes (some m') k' s' → same_mark m m' ≡ true → follow S R κ (m ∷ p) k s ≡ further (follow S R κ p k' s')
    follow_agrees k' s' e b = ap (at_mark m p (follow S R κ p)) (advanced (goes (some m') k' s') e) ∙ ap (λ b. elim b [ true ↦ further (follow S R κ p k' s') | false ↦ closing departs leaving s' ]) b

    -- another mark: the run departs
    pub follow_departs : (k' : Block) (s' : State) → step S R κ k s ≡ goes (some m') k' s' → same_mark m m' ≡ false → follow S R κ (m ∷ p) k s ≡ closing departs leaving s'
    follow_departs k' s' e b = ap (at_mark m p (follow S R κ p)) (advanced (goes (some m') k' s') e) ∙ ap (λ b. elim b [ true ↦ further (follow S R κ p k' s') | false ↦ closing departs leaving s' ]) b

    -- an uncaught exception, with the path's next mark
    pub follow_throws : step S R κ k s ≡ throws m' → same_mark m m' ≡ true → follow S R κ (m ∷ p) k s ≡ further (thrown_at p s)
    follow_throws e b = ap (at_mark m p (follow S R κ p)) (advanced (throws m') e) ∙ ap (λ b. elim b [ true ↦ further (thrown_at p s) | false ↦ closing departs leaving s ]) b

    -- or with another
    pub follow_throws_off : step S R κ k s ≡ throws m' → same_mark m m' ≡ false → follow S R κ (m ∷ p) k s ≡ closing departs leaving s
    follow_throws_off e b = ap (at_mark m p (follow S R κ p)) (advanced (throws m') e) ∙ ap (λ b. elim b [ true ↦ further (thrown_at p s) | false ↦ closing departs leaving s ]) b

    -- the program ends before the path
    pub follow_ends_early : step S R κ k s ≡ ends → follow S R κ (m ∷ p) k s ≡ closing departs leaving s
    follow_ends_early e = ap (at_mark m p (follow S R κ p)) (advanced ends e)

  -- the program ends with the path
  pub follow_ends : step S R κ k s ≡ ends → follow S R κ [] k s ≡ closing follows at_end s
  follow_ends e = ap at_path_end (advanced ends e)

  -- a mark behind the path's last
  pub follow_passes : (m : Mark) (k' : Block) (s' : State) → step S R κ k s ≡ goes (some m) k' s' → follow S R κ [] k s ≡ closing departs leaving s'
  follow_passes m k' s' e = ap at_path_end (advanced (goes (some m) k' s') e)

  -- or an uncaught exception there
  pub follow_throws_behind : (m : Mark) → step S R κ k s ≡ throws m → follow S R κ [] k s ≡ closing departs leaving s
  follow_throws_behind m e = ap at_path_end (advanced (throws m) e)

  pub follow_halts : (p : List Mark) → step S R κ k s ≡ halts → follow S R κ p k s ≡ closing halted halting s
  follow_halts [] e = ap at_path_end (advanced halts e)
  follow_halts (m ∷ p) e = ap (at_mark m p (follow S R κ p)) (advanced halts e)

  -- ---- tracing

  pub trace_on : (n : ℕ) (k' : Block) (s' : State) → step S R κ k s ≡ goes none k' s' → trace_from S R κ n k s ≡ trace_from S R κ n k' s'
  trace_on zero k' s' e = ap at_full (advanced (goes none k' s') e)
  trace_on (suc n) k' s' e = ap (at_room (trace_from S R κ n)) (advanced (goes none k' s') e)

  pub trace_marks : (n : ℕ) (m : Mark) (k' : Block) (s' : State) → step S R κ k s ≡ goes (some m) k' s' → trace_from S R κ (suc n) k s ≡ preceded m (trace_from S R κ n k' s')
  trace_marks n m k' s' e = ap (at_room (trace_from S R κ n)) (advanced (goes (some m) k' s') e)

  pub trace_cut : (m : Mark) (k' : Block) (s' : State) → step S R κ k s ≡ goes (some m) k' s' → trace_from S R κ 0 k s ≡ finishing cut cut_off [] s'
  trace_cut m k' s' e = ap at_full (advanced (goes (some m) k' s') e)

  pub trace_throws : (n : ℕ) (m : Mark) → step S R κ k s ≡ throws m → trace_from S R κ (suc n) k s ≡ finishing threw uncaught (m ∷ []) s
  trace_throws n m e = ap (at_room (trace_from S R κ n)) (advanced (throws m) e)

  pub trace_throws_cut : (m : Mark) → step S R κ k s ≡ throws m → trace_from S R κ 0 k s ≡ finishing cut cut_off [] s
  trace_throws_cut m e = ap at_full (advanced (throws m) e)

  pub trace_ends : (n : ℕ) → step S R κ k s ≡ ends → trace_from S R κ n k s ≡ finishing ended at_end [] s
  trace_ends zero e = ap at_full (advanced ends e)
  trace_ends (suc n) e = ap (at_room (trace_from S R κ n)) (advanced ends e)

  pub trace_halts : (n : ℕ) → step S R κ k s ≡ halts → trace_from S R κ n k s ≡ finishing stalled halting [] s
  trace_halts zero e = ap at_full (advanced halts e)
  trace_halts (suc n) e = ap (at_room (trace_from S R κ n)) (advanced halts e)

-- ---- a step without a mark leaves fewer statements before the next mark

until_less : (x : Statement) (k : Block) → IsSilent x → until_mark k < until_mark (x ⨾ k)
until_less (silent x) k h = omega arith
until_less (next v c) k h = absurd h
until_less (write w c) k h = absurd h
until_less (branch c x y) k h = absurd h
until_less (while c x) k h = absurd h

pub until_falls : (S : Schema) (R : ℕ) (κ : Case) (x : Statement) (k k' : Block) (s s' : State) → step S R κ (x ⨾ k) s ≡ goes none k' s' → until_mark k' < until_mark (x ⨾ k)
until_falls S R κ x k k' s s' e = subst (Silently (λ j. until_mark j < until_mark (x ⨾ k))) e (silent_step S R κ (λ j. until_mark j < until_mark (x ⨾ k)) x k s (until_less x k))

-- ---- a mark that is written is read as itself

pub read_written : (m : Mark) → mark_of (letters m).letter (letters m).number ≡ some m
read_written (branched true) = refl
read_written (branched false) = refl
read_written (turned true) = refl
read_written (turned false) = refl
read_written (fetched true) = refl
read_written (fetched false) = refl
read_written (wrote none) = refl
read_written (wrote (some K)) = refl
read_written (wrote (some (F n))) = refl
read_written (wrote (some (C n))) = refl
read_written (wrote (some (D n))) = refl
