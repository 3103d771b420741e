-- A mark that fits its statement is drawn, and one that does not is refused. Assumes nothing.
use Rattle.std.proofs.Common.{◌≡◌, ℕ, ◌+◌, ◌<◌, ◌≤◌, Bool, true, false, cond, not, ◌&&◌, ◌||◌, List, [], ◌∷◌, length, get_or, drop, pos, sym, refl, ap, ◌∙◌, ap₂, arith}
use mathlib.Core.Option.{Option, none, some}
use Rattle.std.proofs.lemmas.List.{at_drop_more, at_drop_all}
use Rattle.meaning.specs.Values.{any}
use Rattle.meaning.specs.Syntax.{num, target, Silent, silent, Statement, Block, stop, ◌⨾◌, next, write, branch, while, Exception, Mark, branched, turned, fetched, wrote}
use Rattle.meaning.specs.Schema.{Schema, Model}
use Rattle.meaning.specs.Writes.{fitting}
use Rattle.meaning.specs.Paths.{hits, fits, not_caught, throws_out, behind, one_more, left_over, meets, at_marking, unfit_at}
use Rattle.meaning.specs.Records.{is, after, that, Record, def_i, def_t, fact, Stand, never, before, on, Symbols, next_i, next_t, new_int, new_table, stands, becomes, cond_of, write_of}
use Rattle.meaning.specs.Conditions.{Drawn, refused, drawn, ◌▸◌, ◌▸▸◌, later, over, trial, trials, done_s, thrown_s, next_s, silent_records, silent_symbols, Marking, walk, unmarked, marked, draw, symbols, opening, conditions, refusal}
use Rattle.meaning.specs.Folds.{place_on}
use Rattle.meaning.proofs.Basics.{false_true}
use Rattle.meaning.proofs.Coming.{IsSilent}

-- records, and then what follows the mark from k on, or, where an exception is not caught, the end
abbrev pub Goes : (Block → Symbols → Drawn) → Drawn → Block → Bool → Drawn → Type 0
Goes more end k true d = (qs : List Record) × (d ≡ qs ▸▸ end)
Goes more end k false d = (qs : List Record) × (σ : Symbols) × (d ≡ qs ▸▸ more k σ)

module _ (more : Block → Symbols → Drawn) (end : Drawn) (k : Block) where
  -- a record in front
  goes_front : (b : Bool) (r : Record) (d : Drawn) → Goes more end k b d → Goes more end k b (r ▸ d)
  goes_front true r d g = (r ∷ g.0, ap (λ d. r ▸ d) g.1)
  goes_front false r d g = (r ∷ g.0, g.1, ap (λ d. r ▸ d) g.2)

  module _ (S : Schema) where
    goes_done : (h : Option ℕ) (σ : Symbols) → Goes more end k false (done_s S more end h k σ)
    goes_done none σ = ([], σ, refl)
    goes_done (some v) σ = (def_i (next_i σ) (is (num (pos 0))) ∷ [], new_int σ v, refl)

    goes_thrown : (h : Option ℕ) (σ : Symbols) → Goes more end k (not_caught h) (thrown_s S more end h k σ)
    goes_thrown none σ = ([], refl)
    goes_thrown (some v) σ = (def_i (next_i σ) (is (num (pos 1))) ∷ [], new_int σ v, refl)

    goes_next : (c : Stand) (b : Bool) (v : ℕ) (h : Option ℕ) (σ : Symbols) → Goes more end k (not b && not_caught h) (next_s S more end c b v h k σ)
    goes_next never true v h σ = goes_front false _ _ (goes_done h σ)
    goes_next never false v h σ = goes_thrown h σ
    goes_next (before n) true v h σ = goes_front false _ _ (goes_done h (stands σ v (on n)))
    goes_next (before n) false v h σ = goes_front (not_caught h) _ _ (goes_thrown h σ)
    goes_next (on n) true v h σ = goes_front false _ _ (goes_front false _ _ (goes_done h (stands (new_table σ) v (on (next_t σ)))))
    goes_next (on n) false v h σ = goes_front (not_caught h) _ _ (goes_front (not_caught h) _ _ (goes_thrown h (new_table σ)))

  -- W, or an exception that a test throws
  abbrev Thrown : Option Exception → List Exception → Type 0
  Thrown none xs = Unit {0}
  Thrown (some y) xs = any (hits (some y)) xs ≡ true

  goes_trials : (b : Bool) (τ : Exception → Bool → Record) (o : Option Exception) (xs : List Exception) (d : Drawn) → Thrown o xs → Goes more end k b d → Goes more end k b (trials τ o xs d)
  goes_trials b τ none [] d h g = g
  goes_trials b τ none (x ∷ xs) d h g = goes_front b (τ x true) _ (goes_trials b τ none xs d tt g)
  goes_trials b τ (some y) [] d h g = absurd (false_true h)
  goes_trials b τ (some y) (x ∷ xs) d h g = go (hits (some y) x) h (goes_trials b τ (some y) xs d)
    where
      go : (t : Bool) → (t || any (hits (some y)) xs) ≡ true → (any (hits (some y)) xs ≡ true → Goes more end k b d → Goes more end k b (trials τ (some y) xs d)) →
          Goes more end k b (elim t [ true ↦ τ x false ▸ d | false ↦ τ x true ▸ trials τ (some y) xs d ])
      go true h rec = goes_front b (τ x false) d g
      go false h rec = goes_front b (τ x true) (trials τ (some y) xs d) (rec h g)

-- an exception that no test throws is refused
unthrown_refused : (τ : Exception → Bool → Record) (y : Exception) (xs : List Exception) (d : Drawn) → any (hits (some y)) xs ≡ false → trials τ (some y) xs d ≡ refused 0
unthrown_refused τ y [] d h = refl
unthrown_refused τ y (x ∷ xs) d h = go (hits (some y) x) h (unthrown_refused τ y xs d)
  where
    go : (b : Bool) → (b || any (hits (some y)) xs) ≡ false → (any (hits (some y)) xs ≡ false → trials τ (some y) xs d ≡ refused 0) → elim b [ true ↦ τ x false ▸ d | false ↦ τ x true ▸ trials τ (some y) xs d ] ≡ refused 0
    go true h rec = absurd (false_true (sym h))
    go false h rec = ap (λ e. τ x true ▸ e) (rec h)

module _ (S : Schema) (more : Block → Symbols → Drawn) (end : Drawn) (k : Block) (σ : Symbols) where
  -- a mark that fits goes on, or out
  pub fit_goes : (x : Statement) (m : Mark) → fits S x m ≡ true → Goes more end (behind x m k) (throws_out x m) (walk (marked S m more end) (x ⨾ k) σ)
  fit_goes (silent x) m h = absurd (false_true h)
  fit_goes (next v c) (branched b) h = absurd (false_true h)
  fit_goes (next v c) (turned b) h = absurd (false_true h)
  fit_goes (next v c) (fetched b) h = goes_next more end k S (σ.held.vars.cursors v) b v c σ
  fit_goes (next v c) (wrote o) h = absurd (false_true h)
  fit_goes (write w c) (branched b) h = absurd (false_true h)
  fit_goes (write w c) (turned b) h = absurd (false_true h)
  fit_goes (write w c) (fetched b) h = absurd (false_true h)
  fit_goes (write w c) (wrote none) h =
      goes_front more end k false _ _ (goes_trials more end k false (trial S σ w (next_t σ)) none (fitting S w) _ tt (goes_done more end k S c (becomes (new_table σ) (target w) (next_t σ))))
  fit_goes (write w c) (wrote (some y)) h =
      goes_front more end k (not_caught c) _ _ (goes_trials more end k (not_caught c) (trial S σ w (next_t σ)) (some y) (fitting S w) _ h (goes_thrown more end k S c (new_table σ)))
  fit_goes (branch c x y) (branched b) h = (fact b (that (cond_of σ c)) ∷ [], σ, refl)
  fit_goes (branch c x y) (turned b) h = absurd (false_true h)
  fit_goes (branch c x y) (fetched b) h = absurd (false_true h)
  fit_goes (branch c x y) (wrote o) h = absurd (false_true h)
  fit_goes (while c x) (branched b) h = absurd (false_true h)
  fit_goes (while c x) (turned b) h = (fact b (that (cond_of σ c)) ∷ [], σ, refl)
  fit_goes (while c x) (fetched b) h = absurd (false_true h)
  fit_goes (while c x) (wrote o) h = absurd (false_true h)

  -- one that does not fit the statement that makes a mark is refused there
  pub unfit_refused : (x : Statement) (m : Mark) → ¬ IsSilent x → fits S x m ≡ false → walk (marked S m more end) (x ⨾ k) σ ≡ refused 0
  unfit_refused (silent x) m n h = absurd (n tt)
  unfit_refused (next v c) (branched b) n h = refl
  unfit_refused (next v c) (turned b) n h = refl
  unfit_refused (next v c) (fetched b) n h = absurd (false_true (sym h))
  unfit_refused (next v c) (wrote o) n h = refl
  unfit_refused (write w c) (branched b) n h = refl
  unfit_refused (write w c) (turned b) n h = refl
  unfit_refused (write w c) (fetched b) n h = refl
  unfit_refused (write w c) (wrote none) n h = absurd (false_true (sym h))
  unfit_refused (write w c) (wrote (some y)) n h = ap (λ e. def_t (next_t σ) (after (σ.held.tables.now (target w)) (write_of σ w)) ▸ e) (unthrown_refused (trial S σ w (next_t σ)) y (fitting S w) _ h)
  unfit_refused (branch c x y) (branched b) n h = absurd (false_true (sym h))
  unfit_refused (branch c x y) (turned b) n h = refl
  unfit_refused (branch c x y) (fetched b) n h = refl
  unfit_refused (branch c x y) (wrote o) n h = refl
  unfit_refused (while c x) (branched b) n h = refl
  unfit_refused (while c x) (turned b) n h = absurd (false_true (sym h))
  unfit_refused (while c x) (fetched b) n h = refl
  unfit_refused (while c x) (wrote o) n h = refl

-- ---- a path is refused exactly where it does not fit

-- the place of a refusal, if there is one
abbrev pub refusal_of : Drawn → Option ℕ
refusal_of (refused n) = some n
refusal_of (drawn rs) = none

refusal_front : (r : Record) (d : Drawn) → refusal_of (r ▸ d) ≡ refusal_of d
refusal_front r (refused n) = refl
refusal_front r (drawn rs) = refl

pub refusal_fronts : (qs : List Record) (d : Drawn) → refusal_of (qs ▸▸ d) ≡ refusal_of d
refusal_fronts [] d = refl
refusal_fronts (q ∷ qs) d = refusal_front q (qs ▸▸ d) ∙ refusal_fronts qs d

refusal_later : (d : Drawn) → refusal_of (later d) ≡ one_more (refusal_of d)
refusal_later (refused n) = refl
refusal_later (drawn rs) = refl

refusal_over : (p : List Mark) → refusal_of (over p) ≡ left_over p
refusal_over [] = refl
refusal_over (m ∷ p) = refl

module _ (S : Schema) where
  -- no mark is left
  unfit_end : (k : Block) (σ : Symbols) → refusal_of (walk unmarked k σ) ≡ unfit_at S [] k
  unfit_end stop σ = refl
  unfit_end (silent x ⨾ k) σ = refusal_fronts (silent_records σ x) (walk unmarked k (silent_symbols σ x)) ∙ unfit_end k (silent_symbols σ x)
  unfit_end (next v h ⨾ k) σ = refl
  unfit_end (write w h ⨾ k) σ = refl
  unfit_end (branch c x y ⨾ k) σ = refl
  unfit_end (while c x ⨾ k) σ = refl

  module _ (m : Mark) (p : List Mark) (rec : (k : Block) (σ : Symbols) → refusal_of (draw S p k σ) ≡ unfit_at S p k) where
    abbrev μ : Marking
    μ = marked S m (λ k σ. later (draw S p k σ)) (later (over p))

    -- what follows the mark
    led : (b : Bool) (k : Block) (d : Drawn) → Goes (λ k σ. later (draw S p k σ)) (later (over p)) k b d → refusal_of d ≡ one_more (cond b (left_over p) (unfit_at S p k))
    led true k d g = ap refusal_of g.1 ∙ refusal_fronts g.0 (later (over p)) ∙ refusal_later (over p) ∙ ap one_more (refusal_over p)
    led false k d g = ap refusal_of g.2 ∙ refusal_fronts g.0 (later (draw S p k g.1)) ∙ refusal_later (draw S p k g.1) ∙ ap one_more (rec k g.1)

    met : (x : Statement) (k : Block) (σ : Symbols) → ¬ IsSilent x → refusal_of (walk μ (x ⨾ k) σ) ≡ meets S (unfit_at S p) x k m p
    met x k σ n = go (fits S x m) refl
      where
        go : (b : Bool) → fits S x m ≡ b → refusal_of (walk μ (x ⨾ k) σ) ≡ cond b (one_more (cond (throws_out x m) (left_over p) (unfit_at S p (behind x m k)))) (some 0)
        go true e = led (throws_out x m) (behind x m k) (walk μ (x ⨾ k) σ) (fit_goes S (λ k σ. later (draw S p k σ)) (later (over p)) k σ x m e)
        go false e = ap refusal_of (unfit_refused S (λ k σ. later (draw S p k σ)) (later (over p)) k σ x m n e)

    unfit_mark : (k : Block) (σ : Symbols) → refusal_of (walk μ k σ) ≡ unfit_at S (m ∷ p) k
    unfit_mark stop σ = refl
    unfit_mark (silent x ⨾ k) σ = refusal_fronts (silent_records σ x) (walk μ k (silent_symbols σ x)) ∙ unfit_mark k (silent_symbols σ x)
    unfit_mark (next v h ⨾ k) σ = met (next v h) k σ (λ i. i)
    unfit_mark (write w h ⨾ k) σ = met (write w h) k σ (λ i. i)
    unfit_mark (branch c x y ⨾ k) σ = met (branch c x y) k σ (λ i. i)
    unfit_mark (while c x ⨾ k) σ = met (while c x) k σ (λ i. i)

  pub drawn_fits : (p : List Mark) (k : Block) (σ : Symbols) → refusal_of (draw S p k σ) ≡ unfit_at S p k
  drawn_fits [] k σ = unfit_end k σ
  drawn_fits (m ∷ p) k σ = unfit_mark m p (drawn_fits p) k σ

pub path_fits : (M : Model) (p : List Mark) → refusal M p ≡ unfit_at M.schema p M.program
path_fits M p = go (conditions M p) refl ∙ refusal_fronts (opening M.schema) (draw M.schema p M.program (symbols M.schema)) ∙ drawn_fits M.schema p M.program (symbols M.schema)
  where
    go : (d : Drawn) → conditions M p ≡ d → ◌≡◌ {A = Option ℕ} (elim d [ refused n ↦ some n | drawn rs ↦ none ]) (refusal_of d)
    go (refused n) e = refl
    go (drawn rs) e = refl

-- ---- fitting mark by mark: the first i marks fit and lead to the block k

at_marking_lem : (x : Statement) (k : Block) (end : Option ℕ) (f : Statement → Block → Option ℕ) → ¬ IsSilent x → at_marking end f (x ⨾ k) ≡ f x k
at_marking_lem (silent x) k end f n = absurd (n tt)
at_marking_lem (next v h) k end f n = refl
at_marking_lem (write w h) k end f n = refl
at_marking_lem (branch c x y) k end f n = refl
at_marking_lem (while c x) k end f n = refl

further_on : (i : ℕ) (o : Option ℕ) → place_on i (one_more o) ≡ place_on (i + 1) o
further_on i none = refl
further_on i (some n) = ap some (omega arith)

module _ (S : Schema) (program : Block) (p : List Mark) where
  -- the invariant of a walk along the path
  abbrev pub Fitted : ℕ → Block → Type 0
  Fitted i k = unfit_at S p program ≡ place_on i (unfit_at S (drop i p) k)

  pub fitted_start : Fitted 0 program
  fitted_start = sym (go (unfit_at S p program))
    where
      go : (o : Option ℕ) → place_on 0 o ≡ o
      go none = refl
      go (some n) = ap some (omega arith)

  pub fitted_silent : (i : ℕ) (x : Silent) (k : Block) → Fitted i (silent x ⨾ k) → Fitted i k
  fitted_silent i x k inv = inv ∙ ap (place_on i) (go (drop i p))
    where
      go : (q : List Mark) → unfit_at S q (silent x ⨾ k) ≡ unfit_at S q k
      go [] = refl
      go (m ∷ q) = refl

  here : (i : ℕ) → place_on i (some 0) ≡ some i
  here i = ap some (omega arith)

  -- the program ends
  module _ (i : ℕ) (inv : Fitted i stop) where
    pub fitted_end : length p ≤ i → unfit_at S p program ≡ none
    fitted_end h = inv ∙ at_drop_all (λ q. place_on i (unfit_at S q stop)) p i h

    pub fitted_left_over : (m : Mark) → i < length p → unfit_at S p program ≡ some i
    fitted_left_over m lt = inv ∙ at_drop_more (λ q. place_on i (unfit_at S q stop)) p i m lt ∙ here i

  -- a statement that makes a mark
  module _ (i : ℕ) (x : Statement) (n : ¬ IsSilent x) (k : Block) (inv : Fitted i (x ⨾ k)) where
    pub fitted_missing : length p ≤ i → unfit_at S p program ≡ some i
    fitted_missing h = inv ∙ at_drop_all (λ q. place_on i (unfit_at S q (x ⨾ k))) p i h ∙ ap (place_on i) (at_marking_lem x k none (λ x k. some 0) n) ∙ here i

    module _ (m : Mark) (lt : i < length p) where
      meeting : (b c : Bool) → fits S x (get_or p i m) ≡ b → throws_out x (get_or p i m) ≡ c →
          unfit_at S p program ≡ place_on i (cond b (one_more (cond c (left_over (drop (i + 1) p)) (unfit_at S (drop (i + 1) p) (behind x (get_or p i m) k)))) (some 0))
      meeting b c e f =
          inv ∙ at_drop_more (λ q. place_on i (unfit_at S q (x ⨾ k))) p i m lt
          ∙ ap (place_on i) (at_marking_lem x k (some 0) (λ x k. meets S (unfit_at S (drop (i + 1) p)) x k (get_or p i m) (drop (i + 1) p)) n)
          ∙ ap₂ (λ b c. place_on i (cond b (one_more (cond c (left_over (drop (i + 1) p)) (unfit_at S (drop (i + 1) p) (behind x (get_or p i m) k)))) (some 0))) e f

      pub fitted_mark : fits S x (get_or p i m) ≡ true → throws_out x (get_or p i m) ≡ false → Fitted (i + 1) (behind x (get_or p i m) k)
      fitted_mark e f = meeting true false e f ∙ further_on i (unfit_at S (drop (i + 1) p) (behind x (get_or p i m) k))

      pub fitted_unfit : fits S x (get_or p i m) ≡ false → unfit_at S p program ≡ some i
      fitted_unfit e = meeting false (throws_out x (get_or p i m)) e refl ∙ here i

      module _ (e : fits S x (get_or p i m) ≡ true) (f : throws_out x (get_or p i m) ≡ true) where
        pub fitted_thrown : length p ≤ i + 1 → unfit_at S p program ≡ none
        fitted_thrown h = meeting true true e f ∙ at_drop_all (λ q. place_on i (one_more (left_over q))) p (i + 1) h

        pub fitted_thrown_early : i + 1 < length p → unfit_at S p program ≡ some (i + 1)
        fitted_thrown_early h = meeting true true e f ∙ at_drop_more (λ q. place_on i (one_more (left_over q))) p (i + 1) m h ∙ ap some (omega arith)
