-- What holds of a move, whatever it does. Assumes nothing.
use Rattle.std.proofs.Common.{◌≡◌, ℕ, Bool, true, false, cond, pos, refl}
use mathlib.Core.Option.{Option, none, some}
use Rattle.meaning.specs.Syntax.{Block, Exception, Mark, fetched, wrote}
use Rattle.meaning.specs.Tables.{Table}
use Rattle.meaning.specs.Writes.{Outcome, halted, threw, stored}
use Rattle.meaning.specs.State.{State, set_int, set_cursor, set_table}
use Rattle.meaning.specs.Run.{Move, goes, throws, ends, halts, need, done, thrown, fetches, concluded}

-- G of what a move goes on with, H of the mark that it is thrown out with, E at the end; a halt says nothing
module _ (G : Option Mark → Block → State → Type 0) (H : Mark → Type 0) (E : Type 0) where
  -- of the move
  abbrev pub Each : Move → Type 0
  Each (goes o k s) = G o k s
  Each (throws m) = H m
  Each ends = E
  Each halts = Unit {0}

  pub each_need : {A : Type 0} (o : Option A) (f : A → Move) → ((a : A) → o ≡ some a → Each (f a)) → Each (need o f)
  each_need none f h = tt
  each_need (some a) f h = h a refl

  -- where the variable of a CATCH makes no difference
  module _ (k : Block) (set : (m : Mark) (s : State) (v : ℕ) (b : Bool) → G (some m) k s → G (some m) k (set_int s v (cond b (pos 1) (pos 0)))) where
    each_done : (h : Option ℕ) (m : Mark) (s : State) → G (some m) k s → Each (done h m k s)
    each_done none m s g = g
    each_done (some v) m s g = set m s v false g

    each_thrown : (h : Option ℕ) (m : Mark) (s : State) → G (some m) k s → H m → Each (thrown h m k s)
    each_thrown none m s g t = t
    each_thrown (some v) m s g t = set m s v true g

    pub each_fetches : (h : Option ℕ) (v : ℕ) (s : State) (T : Table) (b : Bool) →
        (b ≡ true → G (some (fetched true)) k (set_cursor s v (record { rows = T; on = true }))) → G (some (fetched false)) k s → H (fetched false) → Each (fetches h v k s T b)
    each_fetches h v s T true f g t = each_done h (fetched true) (set_cursor s v (record { rows = T; on = true })) (f refl)
    each_fetches h v s T false f g t = each_thrown h (fetched false) s g t

    pub each_concluded : (h : Option ℕ) (t : ℕ) (s : State) (o : Outcome) →
        ((T : Table) → o ≡ stored T → G (some (wrote none)) k (set_table s t T)) → ((x : Exception) → G (some (wrote (some x))) k s × H (wrote (some x))) → Each (concluded h t k s o)
    each_concluded h t s halted f g = tt
    each_concluded h t s (threw x) f g = each_thrown h (wrote (some x)) s (g x).0 (g x).1
    each_concluded h t s (stored T) f g = each_done h (wrote none) (set_table s t T) (f T refl)

-- P of the block that a move without a mark goes on with
abbrev pub Silently : (Block → Type 0) → Move → Type 0
Silently P = Each (λ o k s. elim o [ none ↦ P k | some m ↦ Unit {0} ]) (λ m. Unit {0}) (Unit {0})

-- a move makes a mark that has P, unless it halts
abbrev pub Makes : (Mark → Type 0) → Move → Type 0
Makes P = Each (λ o k s. elim o [ none ↦ ⊥ | some m ↦ P m ]) P ⊥

-- Q of the block and the state that a move goes on with
abbrev pub OnMove : (Block → State → Type 0) → Move → Type 0
OnMove Q = Each (λ o k s. Q k s) (λ m. Unit {0}) (Unit {0})
