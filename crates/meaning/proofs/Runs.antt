-- What every step keeps, a run keeps, and following and tracing leave. Assumes nothing.
use Rattle.std.proofs.Common.{◌≡◌, ℕ, zero, suc, min, Bool, true, false, cond, List, [], ◌∷◌, ℤ, pos, refl, subst}
use mathlib.Core.Option.{none, some}
use Rattle.meaning.specs.Limits.{longest_path}
use Rattle.meaning.specs.Values.{put, numbered, rest}
use Rattle.meaning.specs.Syntax.{Write, target, Silent, silent, Block, stop, ◌⨾◌, ◌then◌, assign, empty, tail, read, load, select, next, write, commit, rollback, branch, while, Mark, branched, turned}
use Rattle.meaning.specs.Evaluation.{Env, value, truth}
use Rattle.meaning.specs.Schema.{Schema, Model}
use Rattle.meaning.specs.Tables.{Table, Case, begun, lawful_tables, Lawful}
use Rattle.meaning.specs.Writes.{kept, stored, perform}
use Rattle.meaning.specs.State.{Stored, Taken, with_taken, with_tables, committed, rolled_back, State, env, set_int, set_list, set_cursor, set_table, read_one, load_one, start}
use Rattle.meaning.specs.Run.{effect, Move, goes, throws, ends, halts, fetches, ahead, some_row, step, onward, state_after, ComesTo, Over, at_end, uncaught, halting, leaving, cut_off, leaves}
use Rattle.meaning.specs.Paths.{same_mark}
use Rattle.meaning.specs.Following.{Coming, makes, escapes, closes, stalls, comes, advance, Followed, thrown_at, at_path_end, at_mark, follow, following, Traced, at_full, at_room, trace_from, tracing}
use Rattle.meaning.proofs.Basics.{bind_some, some_inj, none_some}
use Rattle.meaning.proofs.Moves.{OnMove, each_need, each_fetches, each_concluded}
use Rattle.meaning.proofs.Coming.{Quiet, quiet_step}

-- P of the tables now and of those saved
abbrev pub Both : ((ℕ → Table) → Type 0) → Stored Table → Type 0
Both P d = P d.now × P d.saved

pub leaves_both : (P : (ℕ → Table) → Type 0) (o : Over) (d : Stored Table) → Both P d → Both P (leaves o d)
leaves_both P at_end d b = (b.0, b.0)
leaves_both P uncaught d b = (b.1, b.1)
leaves_both P halting d b = (b.1, b.1)
leaves_both P leaving d b = (b.1, b.1)
leaves_both P cut_off d b = (b.1, b.1)

-- ---- what a run keeps

module _ (S : Schema) (R : ℕ) (κ : Case) (Q : Block → State → Type 0) (keep : (k : Block) (s : State) → Q k s → OnMove Q (step S R κ k s)) where
  -- Q of a state, with some block
  abbrev pub Somewhere : State → Type 0
  Somewhere s = (k : Block) × Q k s

  pub state_keeps : (n : ℕ) (k : Block) (s s' : State) → Q k s → state_after S R κ n k s ≡ some s' → Somewhere s'
  state_keeps zero k s s' q e = subst Somewhere (some_inj e) (k, q)
  state_keeps (suc n) k s s' q e = go (state_keeps n) (step S R κ k s) (keep k s q) e
    where
      go : ((k : Block) (s s' : State) → Q k s → state_after S R κ n k s ≡ some s' → Somewhere s') → (M : Move) → OnMove Q M → onward S R κ (state_after S R κ n) M ≡ some s' → Somewhere s'
      go rec (goes m k s) q e = rec k s s' q e
      go rec (throws m) q e = absurd (none_some e)
      go rec ends q e = absurd (none_some e)
      go rec halts q e = absurd (none_some e)

  -- Q of what comes next
  abbrev OnComing : Coming → Type 0
  OnComing (makes m k s) = Q k s
  OnComing (escapes m s) = Somewhere s
  OnComing (closes s) = Somewhere s
  OnComing (stalls s) = Somewhere s

  comes_keeps : (k : Block) (s : State) (M : Move) (more : State → Coming) → Quiet S R κ k M → Somewhere s → OnMove Q M → ((s : State) → Q k s → OnComing (more s)) → OnComing (comes s M more)
  comes_keeps k s (goes none k' s') more e w m f = f s' (subst (λ k. Q k s') e m)
  comes_keeps k s (goes (some x) k' s') more e w m f = m
  comes_keeps k s (throws x) more e w m f = w
  comes_keeps k s ends more e w m f = w
  comes_keeps k s halts more e w m f = w

  advance_keeps : (k : Block) (s : State) → Q k s → OnComing (advance S R κ k s)
  advance_keeps stop s q = (stop, q)
  advance_keeps (x ⨾ k) s q = comes_keeps k s (step S R κ (x ⨾ k) s) (advance S R κ k) (quiet_step S R κ x k s) (x ⨾ k, q) (keep (x ⨾ k) s q) (advance_keeps k)

  -- ---- what following and tracing leave

  module _ (P : (ℕ → Table) → Type 0) (tables : (k : Block) (s : State) → Q k s → Both P s.tables) where
    left_both : (o : Over) (s : State) → Somewhere s → Both P (leaves o s.tables)
    left_both o s w = leaves_both P o s.tables (tables w.0 s w.1)

    follow_keeps : (p : List Mark) (k : Block) (s : State) → Q k s → Both P (follow S R κ p k s).tables
    follow_keeps [] k s q = go (advance S R κ k s) (advance_keeps k s q)
      where
        go : (c : Coming) → OnComing c → Both P (at_path_end c).tables
        go (makes m k s) q = left_both leaving s (k, q)
        go (escapes m s) q = left_both leaving s q
        go (closes s) q = left_both at_end s q
        go (stalls s) q = left_both halting s q
    follow_keeps (m ∷ p) k s q = go (follow_keeps p) (advance S R κ k s) (advance_keeps k s q)
      where
        met : (t : Bool) (f g : Followed) → Both P f.tables → Both P g.tables → Both P (elim t as (λ x. Followed) [ true ↦ f | false ↦ g ]).tables
        met true f g x y = x
        met false f g x y = y

        last : (p : List Mark) (s : State) → Somewhere s → Both P (thrown_at p s).tables
        last [] s w = left_both uncaught s w
        last (m ∷ p) s w = left_both leaving s w

        go : ((k : Block) (s : State) → Q k s → Both P (follow S R κ p k s).tables) → (c : Coming) → OnComing c → Both P (at_mark m p (follow S R κ p) c).tables
        go rec (makes m' k' s') q = met (same_mark m m') _ _ (rec k' s' q) (left_both leaving s' (k', q))
        go rec (escapes m' s') q = met (same_mark m m') _ _ (last p s' q) (left_both leaving s' q)
        go rec (closes s') q = left_both leaving s' q
        go rec (stalls s') q = left_both halting s' q

    trace_keeps : (n : ℕ) (k : Block) (s : State) → Q k s → Both P (trace_from S R κ n k s).tables
    trace_keeps zero k s q = go (advance S R κ k s) (advance_keeps k s q)
      where
        go : (c : Coming) → OnComing c → Both P (at_full c).tables
        go (makes m k s) q = left_both cut_off s (k, q)
        go (escapes m s) q = left_both cut_off s q
        go (closes s) q = left_both at_end s q
        go (stalls s) q = left_both halting s q
    trace_keeps (suc n) k s q = go (trace_keeps n) (advance S R κ k s) (advance_keeps k s q)
      where
        go : ((k : Block) (s : State) → Q k s → Both P (trace_from S R κ n k s).tables) → (c : Coming) → OnComing c → Both P (at_room (trace_from S R κ n) c).tables
        go rec (makes m k' s') q = rec k' s' q
        go rec (escapes m s') q = left_both uncaught s' q
        go rec (closes s') q = left_both at_end s' q
        go rec (stalls s') q = left_both halting s' q

-- what a case leaves that is loaded where it is lawful
loaded : (S : Schema) (R : ℕ) (κ : Case) {A : Type 0} (W : A → Type 0) (x y : A) → (Lawful S R κ → W x) → W y → W (elim (lawful_tables S R (begun S κ)) as (λ b. A) [ true ↦ x | false ↦ y ])
loaded S R κ {A} W x y f g = go (lawful_tables S R (begun S κ)) refl
  where
    go : (b : Bool) → lawful_tables S R (begun S κ) ≡ b → W (elim b as (λ b. A) [ true ↦ x | false ↦ y ])
    go true e = f e
    go false e = g

module _ (M : Model) (R : ℕ) (κ : Case) (Q : Block → State → Type 0) (keep : (k : Block) (s : State) → Q k s → OnMove Q (step M.schema R κ k s)) where
  pub comes_keeping : Q M.program (start M.schema κ) → (n : ℕ) (s : State) → ComesTo M R κ n s → (k : Block) × Q k s
  comes_keeping q n s e = state_keeps M.schema R κ Q keep n M.program (start M.schema κ) s q e

  module _ (P : (ℕ → Table) → Type 0) (tables : (k : Block) (s : State) → Q k s → Both P s.tables) (before : Stored Table) (born : Lawful M.schema R κ → Q M.program (start M.schema κ)) (old : Both P before) where
    pub following_keeps : (p : List Mark) → Both P (following M R κ p before).tables
    following_keeps p = loaded M.schema R κ {A = Followed} (λ f. Both P f.tables) _ _ (λ l. follow_keeps M.schema R κ Q keep P tables p M.program (start M.schema κ) (born l)) old

    pub tracing_keeps : (buffer : ℕ) → Both P (tracing M R κ buffer before).tables
    tracing_keeps buffer = loaded M.schema R κ {A = Traced} (λ t. Both P t.tables) _ _ (λ l. trace_keeps M.schema R κ Q keep P tables (min buffer longest_path) M.program (start M.schema κ) (born l)) old

-- ---- a property of the state alone, change by change

-- each change that a statement can make to a state keeps Q
pub record Preserves (S : Schema) (R : ℕ) (Q : State → Type 0) : Type 0 where
  pub ints : (s : State) (x : ℕ) (z : ℤ) → Q s → Q (set_int s x z)
  pub lists : (s : State) (x : ℕ) (l : List ℤ) → Q s → Q (set_list s x l)
  pub inputs : (s : State) (n : Taken) → Q s → Q (with_taken s n)
  pub selects : (s : State) (v : ℕ) (T : Table) → Q s → Q (set_cursor s v (record { rows = T; on = false }))
  pub fetches : (s : State) (v : ℕ) (T : Table) → some_row T ≡ true → Q s → Q (set_cursor s v (record { rows = T; on = true }))
  pub writes : (s : State) (w : Write ℕ ℕ ℕ) (T : Table) → perform S R (env s) s.tables.now w ≡ stored T → Q s → Q (set_table s (target w) T)
  pub commits : (s : State) → Q s → Q (with_tables s (committed s.tables))
  pub rollbacks : (s : State) → Q s → Q (with_tables s (rolled_back s.tables))

module _ (S : Schema) (R : ℕ) (κ : Case) (Q : State → Type 0) (keep : Preserves S R Q) where
  caught : (m : Mark) (s : State) (x : ℕ) (b : Bool) → Q s → Q (set_int s x (cond b (pos 1) (pos 0)))
  caught m s x b q = keep.ints s x (cond b (pos 1) (pos 0)) q

  effected : (x : Silent) (s s' : State) → effect κ x s ≡ some s' → Q s → Q s'
  effected (assign x e) s s' h q = let u = bind_some (value (env s) none e) _ s' h in subst Q (some_inj u.2) (keep.ints s x u.0 q)
  effected (empty x) s s' h q = subst Q (some_inj h) (keep.lists s x [] q)
  effected (tail x y) s s' h q = let u = bind_some (rest (s.vars.lists y)) _ s' h in subst Q (some_inj u.2) (keep.lists s x u.0 q)
  effected (read x) s s' h q = let u = bind_some (numbered κ.reads (suc s.taken.reads)) _ s' h in subst Q (some_inj u.2) (keep.ints (read_one s) x u.0 (keep.inputs s (read_one s).taken q))
  effected (load x) s s' h q = let u = bind_some (numbered κ.lists (suc s.taken.loads)) _ s' h in subst Q (some_inj u.2) (keep.lists (load_one s) x u.0 (keep.inputs s (load_one s).taken q))
  effected (select v t c) s s' h q = let u = bind_some (kept (λ r. truth (env s) (some r) c) (s.tables.now t)) _ s' h in subst Q (some_inj u.2) (keep.selects s v u.0 q)
  effected commit s s' h q = subst Q (some_inj h) (keep.commits s q)
  effected rollback s s' h q = subst Q (some_inj h) (keep.rollbacks s q)

  pub preserved : (k : Block) (s : State) → Q s → OnMove (λ k. Q) (step S R κ k s)
  preserved stop s q = tt
  preserved (silent x ⨾ k) s q = each_need _ _ _ (effect κ x s) (goes none k) (λ s' e. effected x s s' e q)
  preserved (next v h ⨾ k) s q =
      each_need _ _ _ (ahead (s.vars.cursors v)) (λ T. fetches h v k s T (some_row T)) (λ T e. each_fetches _ _ _ k caught h v s T (some_row T) (λ t. keep.fetches s v T t q) q tt)
  preserved (write w h ⨾ k) s q = each_concluded _ _ _ k caught h (target w) s (perform S R (env s) s.tables.now w) (λ T e. keep.writes s w T e q) (λ x. (q, tt))
  preserved (branch c x y ⨾ k) s q = each_need _ _ _ (truth (env s) none c) (λ t. goes (some (branched t)) (cond t x y then k) s) (λ t e. q)
  preserved (while c x ⨾ k) s q = each_need _ _ _ (truth (env s) none c) (λ t. goes (some (turned t)) (cond t (x then (while c x ⨾ k)) k) s) (λ t e. q)

-- ---- a property of tables that every write keeps

-- every write that is done keeps P
abbrev pub Keeps : Schema → ℕ → ((ℕ → Table) → Type 0) → Type 0
Keeps S R P = (η : Env ℕ ℕ ℕ) (w : Write ℕ ℕ ℕ) (T : ℕ → Table) (X : Table) → perform S R η T w ≡ stored X → P T → P (put T (target w) X)

pub on_tables : (S : Schema) (R : ℕ) (P : (ℕ → Table) → Type 0) → Keeps S R P → Preserves S R (λ s. Both P s.tables)
on_tables S R P keep = record {
  ints = λ s x z b. b;
  lists = λ s x l b. b;
  inputs = λ s n b. b;
  selects = λ s v T b. b;
  fetches = λ s v T t b. b;
  writes = λ s w T e b. (keep (env s) w s.tables.now T e b.0, b.1);
  commits = λ s b. (b.0, b.0);
  rollbacks = λ s b. (b.1, b.1);
}
