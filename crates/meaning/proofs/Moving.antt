-- What the moves of a run say of its path. Assumes nothing.
use Rattle.std.proofs.Common.{◌≡◌, ℕ, zero, suc, cond, ◌↔◌, List, [], ◌∷◌, pos, sym, refl, ap, ◌∙◌, subst}
use mathlib.Core.Path.{fun_ext}
use mathlib.Core.Logic.Iff
use mathlib.Core.Option.{Option, none, some}
use Rattle.meaning.specs.Values.{bind}
use Rattle.meaning.specs.Syntax.{Condition, Write, target, Block, stop, ◌⨾◌, ◌then◌, branch, while, next, write, Exception, Mark, branched, turned}
use Rattle.meaning.specs.Evaluation.{truth}
use Rattle.meaning.specs.Schema.{Schema}
use Rattle.meaning.specs.Tables.{Table, Case}
use Rattle.meaning.specs.Writes.{left, fitting, passes, broken, Outcome, or_halted, settled, perform}
use Rattle.meaning.specs.State.{State, env, set_int}
use Rattle.meaning.specs.Run.{ahead, some_row, Move, goes, throws, ends, halts, need, done, thrown, fetches, concluded, step, followed, trace}
use Rattle.meaning.specs.Paths.{as_branched, as_turned, as_fetched, as_wrote}
use Rattle.meaning.proofs.Basics.{some_inj, none_some, nil_cons}
use Rattle.meaning.proofs.Moves.{Makes, each_need, each_fetches, each_concluded}

-- the first mark, or m
abbrev hd : Mark → List Mark → Mark
hd m [] = m
hd m (x ∷ p) = x

-- the marks behind the first
abbrev tl : List Mark → List Mark
tl [] = []
tl (x ∷ p) = p

module _ (S : Schema) (R : ℕ) (κ : Case) where
  -- the run goes on, from k and s or by a move, to its end with the marks p
  abbrev pub From : Block → State → List Mark → Type 0
  From k s p = (n : ℕ) × (trace S R κ n k s ≡ some p)

  -- by a move
  abbrev pub By : Move → List Mark → Type 0
  By M p = (n : ℕ) × (followed S R κ (trace S R κ n) M ≡ some p)

  pub from_step : (k : Block) (s : State) (p : List Mark) → By (step S R κ k s) p ↔ From k s p
  from_step k s p = (λ b. (suc b.0, b.1), λ f. go f.0 f.1)
    where
      go : (n : ℕ) → trace S R κ n k s ≡ some p → By (step S R κ k s) p
      go zero e = absurd (none_some e)
      go (suc n) e = (n, e)

  pub by_need : {A : Type 0} (o : Option A) (f : A → Move) (p : List Mark) → ((a : A) × (o ≡ some a) × By (f a) p) ↔ By (need o f) p
  by_need none f p = (λ x. absurd (none_some x.1), λ b. absurd (none_some b.1))
  by_need (some a) f p = (λ x. subst (λ y. By (f y) p) (sym (some_inj x.1)) x.2, λ b. (a, refl, b))

  pub by_mark : (m m' : Mark) (k : Block) (s : State) (p : List Mark) → ((m ≡ m') × From k s p) ↔ By (goes (some m) k s) (m' ∷ p)
  by_mark m m' k s p = (λ x. (x.1.0, ap (λ o. bind o (λ q. some (m ∷ q))) x.1.1 ∙ ap (λ y. some (y ∷ p)) x.0), λ b. go b.0 (trace S R κ b.0 k s) refl b.1)
    where
      go : (n : ℕ) (o : Option (List Mark)) → trace S R κ n k s ≡ o → bind o (λ q. some (m ∷ q)) ≡ some (m' ∷ p) → (m ≡ m') × From k s p
      go n none e q = absurd (none_some q)
      go n (some r) e q = (ap (hd m) (some_inj q), (n, e ∙ ap (λ x. some (tl x)) (some_inj q)))

  pub by_throw : (m m' : Mark) (p : List Mark) → ((m ≡ m') × (p ≡ [])) ↔ By (throws m) (m' ∷ p)
  by_throw m m' p = (λ x. (0, ap (λ y. some (y ∷ [])) x.0 ∙ ap (λ q. some (m' ∷ q)) (sym x.1)), λ b. (ap (hd m) (some_inj b.1), sym (ap tl (some_inj b.1))))

  pub by_now : (m : Mark) (k : Block) (s : State) (p : List Mark) → From k s p ↔ By (goes (some m) k s) (m ∷ p)
  by_now m k s p = (λ f. (by_mark m m k s p).0 (refl, f), λ b. ((by_mark m m k s p).1 b).1)

  pub first_done : (h : Option ℕ) (m m' : Mark) (k : Block) (s : State) (p : List Mark) → By (done h m k s) (m' ∷ p) → m ≡ m'
  first_done none m m' k s p b = ((by_mark m m' k s p).1 b).0
  first_done (some v) m m' k s p b = ((by_mark m m' k (set_int s v (pos 0)) p).1 b).0

  pub first_thrown : (h : Option ℕ) (m m' : Mark) (k : Block) (s : State) (p : List Mark) → By (thrown h m k s) (m' ∷ p) → m ≡ m'
  first_thrown none m m' k s p b = ((by_throw m m' p).1 b).0
  first_thrown (some v) m m' k s p b = ((by_mark m m' k (set_int s v (pos 1)) p).1 b).0

  -- where each outcome_s has a mark of its own, the mark tells the outcome_s
  pub by_pick : {A : Type 0} (o : Option A) (M : A → Move) (mk : A → Mark) (p : List Mark) → ((a b : A) → By (M a) (mk b ∷ p) → a ≡ b) →
      (b : A) → ((o ≡ some b) × By (M b) (mk b ∷ p)) ↔ By (need o M) (mk b ∷ p)
  by_pick o M mk p tells b = (
    λ q. (by_need o M (mk b ∷ p)).0 (b, q.0, q.1),
    λ y. let q = (by_need o M (mk b ∷ p)).1 y in
        let e : q.0 ≡ b = tells q.0 b q.2 in
        (q.1 ∙ ap some e, subst (λ a. By (M a) (mk b ∷ p)) e q.2),
  )

-- ---- a write's step, value by value

-- what a write does once its tests are over
abbrev pub written : Option ℕ → Write ℕ ℕ ℕ → Block → State → Table → Option Exception → Move
written h w k s T o = concluded h (target w) k s (settled T o)

concluded_need : {A : Type 0} (h : Option ℕ) (t : ℕ) (k : Block) (s : State) (o : Option A) (f : A → Outcome) → concluded h t k s (or_halted o f) ≡ need o (λ a. concluded h t k s (f a))
concluded_need h t k s none f = refl
concluded_need h t k s (some a) f = refl

module _ (S : Schema) (R : ℕ) (κ : Case) (w : Write ℕ ℕ ℕ) (h : Option ℕ) (k : Block) (s : State) where
  -- a write value by value: what it leaves, its tests, and what follows of them
  abbrev pub writing : Move
  writing = need (left S R (env s) w (s.tables.now (target w))) (λ T. need (broken (passes S (env s) s.tables.now w T) (fitting S w)) (written h w k s T))

  pub step_write : step S R κ (write w h ⨾ k) s ≡ writing
  step_write =
      concluded_need h (target w) k s (left S R (env s) w (s.tables.now (target w))) (λ T. or_halted (broken (passes S (env s) s.tables.now w T) (fitting S w)) (settled T))
      ∙ ap (need (left S R (env s) w (s.tables.now (target w)))) (fun_ext (λ T. concluded_need h (target w) k s (broken (passes S (env s) s.tables.now w T) (fitting S w)) (settled T)))

  pub from_write : (p : List Mark) → By S R κ writing p ↔ From S R κ (write w h ⨾ k) s p
  from_write p = Iff.trans (subst (λ M. By S R κ M p) (sym step_write), subst (λ M. By S R κ M p) step_write) (from_step S R κ (write w h ⨾ k) s p)

-- ---- a statement that makes a mark makes one of its own kind

-- there is a value
abbrev There : {A : Type 0} → Option A → Type 0
There none = ⊥
There (some a) = Unit {0}

-- the mark of an IF
abbrev pub Branches : Mark → Type 0
Branches m = There (as_branched m)

-- of a WHILE
abbrev pub Turns : Mark → Type 0
Turns m = There (as_turned m)

-- of a NEXT
abbrev pub Fetches : Mark → Type 0
Fetches m = There (as_fetched m)

-- of a write
abbrev pub Writes : Mark → Type 0
Writes m = There (as_wrote m)

-- a path begins with such a mark
abbrev pub Begins : (Mark → Type 0) → List Mark → Type 0
Begins P [] = ⊥
Begins P (m ∷ p) = P m

module _ (S : Schema) (R : ℕ) (κ : Case) where
  begins : (P : Mark → Type 0) (M : Move) (p : List Mark) → Makes P M → By S R κ M p → Begins P p
  begins P (goes none k s) p y b = absurd y
  begins P (goes (some m) k s) p y b = go (trace S R κ b.0 k s) b.1
    where
      go : (o : Option (List Mark)) → bind o (λ q. some (m ∷ q)) ≡ some p → Begins P p
      go none e = absurd (none_some e)
      go (some q) e = subst (Begins P) (some_inj e) y
  begins P (throws m) p y b = subst (Begins P) (some_inj b.1) y
  begins P ends p y b = absurd y
  begins P halts p y b = absurd (none_some b.1)

  pub branch_begins : (c : Condition ℕ ℕ ℕ) (x y k : Block) (s : State) (p : List Mark) → From S R κ (branch c x y ⨾ k) s p → Begins Branches p
  branch_begins c x y k s p f =
      begins Branches (step S R κ (branch c x y ⨾ k) s) p
      (each_need _ _ _ (truth (env s) none c) (λ t. goes (some (branched t)) (cond t x y then k) s) (λ t e. tt)) ((from_step S R κ (branch c x y ⨾ k) s p).1 f)

  pub while_begins : (c : Condition ℕ ℕ ℕ) (x k : Block) (s : State) (p : List Mark) → From S R κ (while c x ⨾ k) s p → Begins Turns p
  while_begins c x k s p f =
      begins Turns (step S R κ (while c x ⨾ k) s) p
      (each_need _ _ _ (truth (env s) none c) (λ t. goes (some (turned t)) (cond t (x then (while c x ⨾ k)) k) s) (λ t e. tt)) ((from_step S R κ (while c x ⨾ k) s p).1 f)

  pub next_begins : (v : ℕ) (h : Option ℕ) (k : Block) (s : State) (p : List Mark) → From S R κ (next v h ⨾ k) s p → Begins Fetches p
  next_begins v h k s p f =
      begins Fetches (step S R κ (next v h ⨾ k) s) p (each_need _ _ _ (ahead (s.vars.cursors v)) (λ T. fetches h v k s T (some_row T)) (λ T e. each_fetches _ _ _ k (λ m s v b g. g) h v s T (some_row T) (λ t. tt) tt tt)) ((from_step S R κ (next v h ⨾ k) s p).1 f)

  pub write_begins : (w : Write ℕ ℕ ℕ) (h : Option ℕ) (k : Block) (s : State) (p : List Mark) → From S R κ (write w h ⨾ k) s p → Begins Writes p
  write_begins w h k s p f =
      begins Writes (step S R κ (write w h ⨾ k) s) p (each_concluded _ _ _ k (λ m s v b g. g) h (target w) s (perform S R (env s) s.tables.now w) (λ T e. tt) (λ x. (tt, tt))) ((from_step S R κ (write w h ⨾ k) s p).1 f)

  -- the program's end makes no mark
  pub end_marks_none : (s : State) (m : Mark) (p : List Mark) → From S R κ stop s (m ∷ p) → ⊥
  end_marks_none s m p f = nil_cons (some_inj ((from_step S R κ stop s (m ∷ p)).1 f).1)
