-- Drawing a list piece by piece: records in front, the tests of a write one by one, blocks. Assumes nothing.
use Rattle.std.proofs.Common.{◌≡◌, ℕ, zero, suc, ◌+◌, ◌<◌, ◌≤◌, Bool, true, false, cond, not, List, [], ◌∷◌, ◌++◌, length, get_or, drop, sym, refl, ap, ◌∙◌, append-nil, add-one, arith}
use mathlib.Core.Option.{Option, none, some}
use Rattle.std.proofs.lemmas.List.{at_drop_more, at_drop_all}
use Rattle.meaning.specs.Values.{bind}
use Rattle.meaning.specs.Syntax.{Condition, Statement, Block, stop, ◌⨾◌, ◌then◌, while, Exception, Mark}
use Rattle.meaning.specs.Schema.{Schema}
use Rattle.meaning.specs.Writes.{broken}
use Rattle.meaning.specs.Paths.{hits}
use Rattle.meaning.specs.Records.{Record, Symbols}
use Rattle.meaning.specs.Conditions.{Drawn, refused, drawn, ◌▸◌, ◌▸▸◌, later, over, trials, Marking, walk, unmarked, marked, draw}
use Rattle.meaning.specs.Folds.{flat, laters}

-- ---- records in front

pub fronts : (rs qs : List Record) (d : Drawn) → (rs ++ qs) ▸▸ d ≡ rs ▸▸ (qs ▸▸ d)
fronts [] qs d = refl
fronts (r ∷ rs) qs d = ap (λ v. r ▸ v) (fronts rs qs d)

pub fronts_drawn : (rs qs : List Record) → rs ▸▸ drawn qs ≡ drawn (rs ++ qs)
fronts_drawn [] qs = refl
fronts_drawn (r ∷ rs) qs = ap (λ d. r ▸ d) (fronts_drawn rs qs)

pub fronts_refused : (rs : List Record) (n : ℕ) → rs ▸▸ refused n ≡ refused n
fronts_refused [] n = refl
fronts_refused (r ∷ rs) n = ap (λ d. r ▸ d) (fronts_refused rs n)

later_one : (r : Record) (d : Drawn) → later (r ▸ d) ≡ r ▸ later d
later_one r (refused n) = refl
later_one r (drawn rs) = refl

pub later_fronts : (rs : List Record) (d : Drawn) → later (rs ▸▸ d) ≡ rs ▸▸ later d
later_fronts [] d = refl
later_fronts (r ∷ rs) d = later_one r (rs ▸▸ d) ∙ ap (λ v. r ▸ v) (later_fronts rs d)

-- ---- what follows several marks

pub laters_more : (n : ℕ) (d : Drawn) → laters n (later d) ≡ laters (n + 1) d
laters_more n d = ap (λ k. laters k d) (sym (add-one n))

pub laters_fronts : (n : ℕ) (rs : List Record) (d : Drawn) → laters n (rs ▸▸ d) ≡ rs ▸▸ laters n d
laters_fronts zero rs d = refl
laters_fronts (suc n) rs d = ap (laters n) (later_fronts rs d) ∙ laters_fronts n rs (later d)

pub laters_refused : (n k : ℕ) → laters n (refused k) ≡ refused (k + n)
laters_refused zero k = ap refused (omega arith)
laters_refused (suc n) k = laters_refused n (suc k) ∙ ap refused (omega arith)

pub laters_drawn : (n : ℕ) (rs : List Record) → laters n (drawn rs) ≡ drawn rs
laters_drawn zero rs = refl
laters_drawn (suc n) rs = laters_drawn n rs

-- ---- a list drawn so far: the records rs of the first i marks, and then what is drawn of the others from k and σ

module _ (S : Schema) (program : Block) (first : Symbols) (p : List Mark) where
  -- the invariant of drawing
  abbrev pub Drew : ℕ → List Record → Block → Symbols → Type 0
  Drew i rs k σ = draw S p program first ≡ rs ▸▸ laters i (draw S (drop i p) k σ)

  pub drew_start : Drew 0 [] program first
  drew_start = refl

  module _ (i : ℕ) (rs : List Record) (k : Block) (σ : Symbols) (inv : Drew i rs k σ) where
    -- what stands behind the records so far
    behind : (d : Drawn) → draw S (drop i p) k σ ≡ d → draw S p program first ≡ rs ▸▸ laters i d
    behind d e = inv ∙ ap (λ d. rs ▸▸ laters i d) e

    glued : (qs : List Record) (d : Drawn) → draw S (drop i p) k σ ≡ qs ▸▸ d → draw S p program first ≡ (rs ++ qs) ▸▸ laters i d
    glued qs d e = behind (qs ▸▸ d) e ∙ ap (λ d. rs ▸▸ d) (laters_fronts i qs d) ∙ sym (fronts rs qs (laters i d))

    refuses : draw S (drop i p) k σ ≡ refused 0 → draw S p program first ≡ refused i
    refuses e = behind (refused 0) e ∙ ap (λ d. rs ▸▸ d) (laters_refused i 0 ∙ ap refused (omega arith)) ∙ fronts_refused rs i

    -- statements that make no mark give the records qs
    pub drew_quiet : (qs : List Record) (k' : Block) (σ' : Symbols) → ((μ : Marking) → walk μ k σ ≡ qs ▸▸ walk μ k' σ') → Drew i (rs ++ qs) k' σ'
    drew_quiet qs k' σ' f = glued qs (draw S (drop i p) k' σ') (go (drop i p))
      where
        go : (p : List Mark) → draw S p k σ ≡ qs ▸▸ draw S p k' σ'
        go [] = f unmarked
        go (m ∷ p) = f (marked S m (λ k σ. later (draw S p k σ)) (later (over p)))

    module _ (m : Mark) (lt : i < length p) where
      -- what follows the next mark
      abbrev on_mark : Block → Symbols → Drawn
      on_mark k σ = later (draw S (drop (i + 1) p) k σ)

      -- and an uncaught exception at it
      abbrev at_throw : Drawn
      at_throw = later (over (drop (i + 1) p))

      -- the next mark is met
      at_mark : draw S (drop i p) k σ ≡ walk (marked S (get_or p i m) on_mark at_throw) k σ
      at_mark = at_drop_more (λ q. draw S q k σ) p i m lt

      -- its statement gives the records qs and goes on
      pub drew_mark : (qs : List Record) (k' : Block) (σ' : Symbols) → ((more : Block → Symbols → Drawn) (end : Drawn) → walk (marked S (get_or p i m) more end) k σ ≡ qs ▸▸ more k' σ') → Drew (i + 1) (rs ++ qs) k' σ'
      drew_mark qs k' σ' f = glued qs _ (at_mark ∙ f on_mark at_throw) ∙ ap (λ d. (rs ++ qs) ▸▸ d) (laters_more i (draw S (drop (i + 1) p) k' σ'))

      -- it does not fit, or is left over
      pub drew_unfit : ((more : Block → Symbols → Drawn) (end : Drawn) → walk (marked S (get_or p i m) more end) k σ ≡ refused 0) → draw S p program first ≡ refused i
      drew_unfit f = refuses (at_mark ∙ f on_mark at_throw)

      -- its statement gives the records qs and an uncaught exception
      module _ (qs : List Record) (f : (more : Block → Symbols → Drawn) (end : Drawn) → walk (marked S (get_or p i m) more end) k σ ≡ qs ▸▸ end) where
        -- with the last mark: the list is complete
        pub drew_thrown : length p ≤ i + 1 → draw S p program first ≡ drawn (rs ++ qs)
        drew_thrown h =
            glued qs _ (at_mark ∙ f on_mark at_throw) ∙ ap (λ d. (rs ++ qs) ▸▸ laters i (later d)) (at_drop_all over p (i + 1) h) ∙ ap (λ d. (rs ++ qs) ▸▸ d) (laters_drawn i []) ∙ fronts_drawn (rs ++ qs) []
            ∙ ap drawn (append-nil (rs ++ qs))

        -- with a mark behind it: that is left over
        pub drew_thrown_early : i + 1 < length p → draw S p program first ≡ refused (i + 1)
        drew_thrown_early h =
            glued qs _ (at_mark ∙ f on_mark at_throw) ∙ ap (λ d. (rs ++ qs) ▸▸ laters i (later d)) (at_drop_more over p (i + 1) m h) ∙ ap (λ d. (rs ++ qs) ▸▸ d) (laters_refused i 1 ∙ ap refused (omega arith))
            ∙ fronts_refused (rs ++ qs) (i + 1)

    -- no mark is left, and the program ends
    pub drew_end : length p ≤ i → walk unmarked k σ ≡ drawn [] → draw S p program first ≡ drawn rs
    drew_end h e = behind (drawn []) (at_drop_all (λ q. draw S q k σ) p i h ∙ e) ∙ ap (λ d. rs ▸▸ d) (laters_drawn i []) ∙ fronts_drawn rs [] ∙ ap drawn (append-nil rs)

    -- no mark is left, and one is missing
    pub drew_short : length p ≤ i → walk unmarked k σ ≡ refused 0 → draw S p program first ≡ refused i
    drew_short h e = refuses (at_drop_all (λ q. draw S q k σ) p i h ∙ e)

-- ---- the tests of a write

-- the first of the tests gives its record, and is the last if it is thrown
pub trials_next : (τ : Exception → Bool → Record) (o : Option Exception) (x : Exception) (xs : List Exception) (d : Drawn) (b : Bool) → hits o x ≡ b →
    trials τ o (x ∷ xs) d ≡ τ x (not b) ▸ cond b d (trials τ o xs d)
trials_next τ o x xs d b e = ap (λ b. elim b [ true ↦ τ x false ▸ d | false ↦ τ x true ▸ trials τ o xs d ]) e ∙ go b
  where
    go : (b : Bool) → elim b [ true ↦ τ x false ▸ d | false ↦ τ x true ▸ trials τ o xs d ] ≡ τ x (not b) ▸ cond b d (trials τ o xs d)
    go true = refl
    go false = refl

module _ (p : Exception → Option Bool) (x : Exception) (xs : List Exception) where
  pub broken_next : p x ≡ some true → broken p (x ∷ xs) ≡ broken p xs
  broken_next e = ap (λ o. bind o (λ b. cond b (broken p xs) (some (some x)))) e

  pub broken_stop : p x ≡ some false → broken p (x ∷ xs) ≡ some (some x)
  broken_stop e = ap (λ o. bind o (λ b. cond b (broken p xs) (some (some x)))) e

  pub broken_stuck : p x ≡ none → broken p (x ∷ xs) ≡ none
  broken_stuck e = ap (λ o. bind o (λ b. cond b (broken p xs) (some (some x)))) e

-- first these tests, and then, unless one of them throws, those
pub broken_both : (p : Exception → Option Bool) (xs ys : List Exception) → broken p (xs ++ ys) ≡ bind (broken p xs) (λ o. elim o [ none ↦ broken p ys | some x ↦ some (some x) ])
broken_both p [] ys = refl
broken_both p (x ∷ xs) ys = go (p x) (broken_both p xs ys)
  where
    go : (o : Option Bool) → broken p (xs ++ ys) ≡ bind (broken p xs) (λ o. elim o [ none ↦ broken p ys | some x ↦ some (some x) ]) →
        bind o (λ b. cond b (broken p (xs ++ ys)) (some (some x))) ≡ bind (bind o (λ b. cond b (broken p xs) (some (some x)))) (λ o. elim o [ none ↦ broken p ys | some x ↦ some (some x) ])
    go none rec = refl
    go (some true) rec = rec
    go (some false) rec = refl

-- tests that come out alike throw alike
pub broken_alike : (p q : Exception → Option Bool) → ((x : Exception) → p x ≡ q x) → (xs : List Exception) → broken p xs ≡ broken q xs
broken_alike p q e [] = refl
broken_alike p q e (x ∷ xs) = (λ i. bind (e x i) (λ b. cond b (broken_alike p q e xs i) (some (some x))))

-- ---- blocks

pub then_stop : (b : Block) → b then stop ≡ b
then_stop stop = refl
then_stop (s ⨾ b) = ap (λ k. s ⨾ k) (then_stop b)

pub then_assoc : (a b k : Block) → (a then b) then k ≡ a then (b then k)
then_assoc stop b k = refl
then_assoc (s ⨾ a) b k = ap (λ j. s ⨾ j) (then_assoc a b k)

-- an open block that is done is closed
pub flat_done : (bs : List Block) → flat (stop ∷ bs) ≡ flat bs
flat_done bs = refl

-- the next statement is the first of the innermost open block
pub flat_first : (x : Statement) (b : Block) (bs : List Block) → flat ((x ⨾ b) ∷ bs) ≡ x ⨾ flat (b ∷ bs)
flat_first x b bs = refl

-- a turn of a loop opens its body and leaves the loop on the block below
pub flat_turn : (c : Condition ℕ ℕ ℕ) (a b : Block) (bs : List Block) → flat (a ∷ ((while c a ⨾ b) ∷ bs)) ≡ a then (while c a ⨾ flat (b ∷ bs))
flat_turn c a b bs = refl
