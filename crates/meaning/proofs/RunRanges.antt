-- Every value that a run holds is in range. Assumes nothing.
use Rattle.std.proofs.Common.{◌≡◌, ℕ, zero, suc, Bool, true, false, cond, ◌&&◌, List, [], ◌∷◌, ℤ, pos, refl, subst}
use mathlib.Core.Option.{Option, none, some}
use Rattle.meaning.specs.Values.{nth, numbered, rest, all, in_range}
use Rattle.meaning.specs.Syntax.{Expression, num, var, att, head, get, op, neg, Condition, tru, fls, con, non, cmp, nil, Write, insert, update, delete, target, Silent, silent, Block, stop, ◌⨾◌, ◌then◌, assign, empty, tail, read, load, select, next, write, commit, rollback, branch, while, Mark, branched, turned}
use Rattle.meaning.specs.Evaluation.{Row, Env, blank, value, truth}
use Rattle.meaning.specs.Schema.{Schema, Model}
use Rattle.meaning.specs.Tables.{Table, Case}
use Rattle.meaning.specs.Writes.{kept, perform}
use Rattle.meaning.specs.State.{Taken, with_taken, Stored, Cursor, State, at, env, set_int, set_list, set_cursor, set_table, read_one, load_one, start}
use Rattle.meaning.specs.Run.{effect, goes, fetches, ahead, some_row, step, ComesTo}
use Rattle.meaning.specs.Following.{following, tracing}
use Rattle.meaning.specs.Ranges.{silent_in_range, row_in_range, exp_in_range, cond_in_range, write_in_range, block_in_range, statement_in_range, CaseInRange, TableInRange, InRangeBoth, StateInRange}
use Rattle.meaning.proofs.Basics.{bind_some, some_inj, none_some, and_iff, put_all}
use Rattle.meaning.proofs.Members.{all_in}
use Rattle.meaning.proofs.Rows.{kept_from}
use Rattle.meaning.proofs.Performs.{done_by}
use Rattle.meaning.proofs.Ranges.{value_ranged, left_ranged, begun_ranged}
use Rattle.meaning.proofs.Moves.{OnMove, each_need, each_fetches, each_concluded}
use Rattle.meaning.proofs.Runs.{comes_keeping, following_keeps, tracing_keeps}

-- ---- what is in range in a program is in range with variables that are

-- every value of a variable is in range
record EnvInRange (η : Env ℕ ℕ ℕ) : Type 0 where
  ints : (x : ℕ) → in_range (η.int x) ≡ true
  lists : (x : ℕ) → all in_range (η.list x) ≡ true
  rows : (v : ℕ) → row_in_range (η.row v) ≡ true

-- two parts are in range
parts : (a b c d : Bool) → (a ≡ true → c ≡ true) → (b ≡ true → d ≡ true) → (a && b) ≡ true → (c && d) ≡ true
parts a b c d f g h = let q = (and_iff a b).0 h in (and_iff c d).1 (f q.0, g q.1)

module _ (η : Env ℕ ℕ ℕ) (r : EnvInRange η) where
  exp_sound : (e : Expression ℕ ℕ ℕ) → exp_in_range blank e ≡ true → exp_in_range η e ≡ true
  exp_sound (num z) h = h
  exp_sound (var x) h = r.ints x
  exp_sound (att k) h = refl
  exp_sound (head x) h = r.lists x
  exp_sound (get v k) h = r.rows v
  exp_sound (op o e f) h = parts _ _ _ _ (exp_sound e) (exp_sound f) h
  exp_sound (neg e) h = exp_sound e h

  cond_sound : (c : Condition ℕ ℕ ℕ) → cond_in_range blank c ≡ true → cond_in_range η c ≡ true
  cond_sound tru h = refl
  cond_sound fls h = refl
  cond_sound (con o c d) h = parts _ _ _ _ (cond_sound c) (cond_sound d) h
  cond_sound (non c) h = cond_sound c h
  cond_sound (cmp o e f) h = parts _ _ _ _ (exp_sound e) (exp_sound f) h
  cond_sound (nil x) h = r.lists x

  exps_sound : (es : List (Expression ℕ ℕ ℕ)) → all (exp_in_range blank) es ≡ true → all (exp_in_range η) es ≡ true
  exps_sound [] h = refl
  exps_sound (e ∷ es) h = parts _ _ _ _ (exp_sound e) (exps_sound es) h

  write_sound : (w : Write ℕ ℕ ℕ) → write_in_range blank w ≡ true → write_in_range η w ≡ true
  write_sound (insert t es) h = exps_sound es h
  write_sound (update t k e c) h = parts _ _ _ _ (exp_sound e) (cond_sound c) h
  write_sound (delete t c) h = cond_sound c h

at_ranged : (c : Cursor) → TableInRange c.rows → row_in_range (at c) ≡ true
at_ranged c h = go c.on c.rows h
  where
    go : (b : Bool) (T : Table) → TableInRange T → row_in_range (at (record { rows = T; on = b })) ≡ true
    go true [] h = refl
    go true (r ∷ T) h = ((and_iff (all in_range r) (all (all in_range) T)).0 h).0
    go false T h = refl

env_ranged : (s : State) → StateInRange s → EnvInRange (env s)
env_ranged s r = record { ints = r.ints; lists = r.lists; rows = λ v. at_ranged (s.vars.cursors v) (r.cursors v) }

-- ---- what is set stays in range

module _ (s : State) (r : StateInRange s) where
  int_set : (x : ℕ) (z : ℤ) → in_range z ≡ true → StateInRange (set_int s x z)
  int_set x z h = record { ints = put_all (λ z. in_range z ≡ true) s.vars.ints x z h r.ints; lists = r.lists; cursors = r.cursors; now = r.now; saved = r.saved }

  list_set : (x : ℕ) (l : List ℤ) → all in_range l ≡ true → StateInRange (set_list s x l)
  list_set x l h = record { ints = r.ints; lists = put_all (λ l. all in_range l ≡ true) s.vars.lists x l h r.lists; cursors = r.cursors; now = r.now; saved = r.saved }

  cursor_set : (v : ℕ) (c : Cursor) → TableInRange c.rows → StateInRange (set_cursor s v c)
  cursor_set v c h = record { ints = r.ints; lists = r.lists; cursors = put_all (λ c. TableInRange c.rows) s.vars.cursors v c h r.cursors; now = r.now; saved = r.saved }

  table_set : (t : ℕ) (T : Table) → TableInRange T → StateInRange (set_table s t T)
  table_set t T h = record { ints = r.ints; lists = r.lists; cursors = r.cursors; now = put_all TableInRange s.tables.now t T h r.now; saved = r.saved }

nth_has : {A : Type 0} (p : A → Bool) (xs : List A) (n : ℕ) (a : A) → all p xs ≡ true → nth xs n ≡ some a → p a ≡ true
nth_has p [] n a h e = absurd (none_some e)
nth_has p (x ∷ xs) zero a h e = subst (λ y. p y ≡ true) (some_inj e) ((and_iff (p x) (all p xs)).0 h).0
nth_has p (x ∷ xs) (suc n) a h e = nth_has p xs n a ((and_iff (p x) (all p xs)).0 h).1 e

rest_has : {A : Type 0} (p : A → Bool) (xs ys : List A) → all p xs ≡ true → rest xs ≡ some ys → all p ys ≡ true
rest_has p [] ys h e = absurd (none_some e)
rest_has p (x ∷ xs) ys h e = subst (λ zs. all p zs ≡ true) (some_inj e) ((and_iff (p x) (all p xs)).0 h).1

ahead_ranged : (c : Cursor) (T : Table) → TableInRange c.rows → ahead c ≡ some T → TableInRange T
ahead_ranged c T h e = go c.on e
  where
    go : (b : Bool) → cond b (rest c.rows) (some c.rows) ≡ some T → TableInRange T
    go true q = rest_has (all in_range) c.rows T h q
    go false q = subst TableInRange (some_inj q) h

-- ---- blocks

then_ranged : (a k : Block) → block_in_range a ≡ true → block_in_range k ≡ true → block_in_range (a then k) ≡ true
then_ranged stop k h g = g
then_ranged (x ⨾ a) k h g = let q = (and_iff (statement_in_range x) (block_in_range a)).0 h in (and_iff (statement_in_range x) (block_in_range (a then k))).1 (q.0, then_ranged a k q.1 g)

pick_ranged : (t : Bool) (a b : Block) → block_in_range a ≡ true → block_in_range b ≡ true → block_in_range (cond t a b) ≡ true
pick_ranged true a b h g = h
pick_ranged false a b h g = g

-- ---- a step

-- what is left of the program and the state are in range
abbrev pub Ranged : Block → State → Type 0
Ranged k s = (block_in_range k ≡ true) × StateInRange s

catch_ranged : (k : Block) (m : Mark) (s : State) (x : ℕ) (b : Bool) → Ranged k s → Ranged k (set_int s x (cond b (pos 1) (pos 0)))
catch_ranged k m s x true q = (q.0, int_set s q.1 x (pos 1) refl)
catch_ranged k m s x false q = (q.0, int_set s q.1 x (pos 0) refl)

module _ (S : Schema) (R : ℕ) (κ : Case) (inputs : CaseInRange κ) where
  -- a state with other counts of inputs
  taken_set : (s : State) (n : Taken) → StateInRange s → StateInRange (with_taken s n)
  taken_set s n r = record { ints = r.ints; lists = r.lists; cursors = r.cursors; now = r.now; saved = r.saved }

  effect_ranged : (x : Silent) (s s' : State) → silent_in_range x ≡ true → effect κ x s ≡ some s' → StateInRange s → StateInRange s'
  effect_ranged (assign x e) s s' p h r =
      let u = bind_some (value (env s) none e) _ s' h in
      subst StateInRange (some_inj u.2) (int_set s r x u.0 (value_ranged (env s) none e u.0 (exp_sound (env s) (env_ranged s r) e p) refl u.1))
  effect_ranged (empty x) s s' p h r = subst StateInRange (some_inj h) (list_set s r x [] refl)
  effect_ranged (tail x y) s s' p h r =
      let u = bind_some (rest (s.vars.lists y)) _ s' h in
      subst StateInRange (some_inj u.2) (list_set s r x u.0 (rest_has in_range (s.vars.lists y) u.0 (r.lists y) u.1))
  effect_ranged (read x) s s' p h r =
      let u = bind_some (numbered κ.reads (suc s.taken.reads)) _ s' h in
      subst StateInRange (some_inj u.2) (int_set (read_one s) (taken_set s (read_one s).taken r) x u.0 (nth_has in_range κ.reads s.taken.reads u.0 inputs.reads u.1))
  effect_ranged (load x) s s' p h r =
      let u = bind_some (numbered κ.lists (suc s.taken.loads)) _ s' h in
      subst StateInRange (some_inj u.2) (list_set (load_one s) (taken_set s (load_one s).taken r) x u.0 (nth_has (all in_range) κ.lists s.taken.loads u.0 inputs.lists u.1))
  effect_ranged (select v t c) s s' p h r =
      let f : Row → Option Bool = λ q. truth (env s) (some q) c in
      let u = bind_some (kept f (s.tables.now t)) _ s' h in
      subst StateInRange (some_inj u.2) (cursor_set s r v (record { rows = u.0; on = false })
      ((all_in (all in_range) u.0).1 (λ q i. (all_in (all in_range) (s.tables.now t)).0 (r.now t) q (kept_from f (s.tables.now t) u.0 u.1 q i))))
  effect_ranged commit s s' p h r = subst StateInRange (some_inj h) (record { ints = r.ints; lists = r.lists; cursors = r.cursors; now = r.now; saved = r.now })
  effect_ranged rollback s s' p h r = subst StateInRange (some_inj h) (record { ints = r.ints; lists = r.lists; cursors = r.cursors; now = r.saved; saved = r.saved })

  step_ranged : (k : Block) (s : State) → Ranged k s → OnMove Ranged (step S R κ k s)
  step_ranged stop s q = tt
  step_ranged (silent x ⨾ k) s (b, r) = let p = (and_iff (silent_in_range x) (block_in_range k)).0 b in each_need _ _ _ (effect κ x s) (goes none k) (λ s' e. (p.1, effect_ranged x s s' p.0 e r))
  step_ranged (next v h ⨾ k) s (b, r) =
      each_need _ _ _ (ahead (s.vars.cursors v)) (λ T. fetches h v k s T (some_row T))
      (λ T e. each_fetches _ _ _ k (catch_ranged k) h v s T (some_row T) (λ t. (b, cursor_set s r v (record { rows = T; on = true }) (ahead_ranged (s.vars.cursors v) T (r.cursors v) e))) (b, r) tt)
  step_ranged (write w h ⨾ k) s (b, r) =
      let p = (and_iff (write_in_range blank w) (block_in_range k)).0 b in
      each_concluded _ _ _ k (catch_ranged k) h (target w) s (perform S R (env s) s.tables.now w)
      (λ T e. (p.1, table_set s r (target w) T (left_ranged S R (env s) w (s.tables.now (target w)) T (write_sound (env s) (env_ranged s r) w p.0) (done_by S R (env s) s.tables.now w T e).0 (r.now (target w))))) (λ x. ((p.1, r), tt))
  step_ranged (branch c x y ⨾ k) s (b, r) =
      let p = (and_iff (cond_in_range blank c && (block_in_range x && block_in_range y)) (block_in_range k)).0 b in
      let q = (and_iff (block_in_range x) (block_in_range y)).0 ((and_iff (cond_in_range blank c) (block_in_range x && block_in_range y)).0 p.0).1 in
      each_need _ _ _ (truth (env s) none c) (λ t. goes (some (branched t)) (cond t x y then k) s) (λ t e. (then_ranged (cond t x y) k (pick_ranged t x y q.0 q.1) p.1, r))
  step_ranged (while c x ⨾ k) s (b, r) =
      let p = (and_iff (cond_in_range blank c && block_in_range x) (block_in_range k)).0 b in
      let q = (and_iff (cond_in_range blank c) (block_in_range x)).0 p.0 in
      each_need _ _ _ (truth (env s) none c) (λ t. goes (some (turned t)) (cond t (x then (while c x ⨾ k)) k) s)
      (λ t e. (pick_ranged t (x then (while c x ⨾ k)) k (then_ranged x (while c x ⨾ k) q.1 b) p.1, r))

module _ (M : Model) (R : ℕ) (κ : Case) (inputs : CaseInRange κ) (h : block_in_range M.program ≡ true) where
  start_ranged : Ranged M.program (start M.schema κ)
  start_ranged =
      let tables : (t : ℕ) → TableInRange ((start M.schema κ).tables.now t) = λ t. begun_ranged M.schema κ t (inputs.rows t) in
      (h, record { ints = λ x. refl; lists = λ x. refl; cursors = λ v. refl; now = tables; saved = tables })

  pub run_ranged : (n : ℕ) (s : State) → ComesTo M R κ n s → StateInRange s
  run_ranged n s e = (comes_keeping M R κ Ranged (step_ranged M.schema R κ inputs) start_ranged n s e).1.1

  module _ (before : Stored Table) (old : InRangeBoth before) where
    pub following_ranged : (p : List Mark) → InRangeBoth (following M R κ p before).tables
    following_ranged p = following_keeps M R κ Ranged (step_ranged M.schema R κ inputs) (λ T. (t : ℕ) → TableInRange (T t)) (λ k s q. (q.1.now, q.1.saved)) before (λ l. start_ranged) old p

    pub tracing_ranged : (buffer : ℕ) → InRangeBoth (tracing M R κ buffer before).tables
    tracing_ranged buffer = tracing_keeps M R κ Ranged (step_ranged M.schema R κ inputs) (λ T. (t : ℕ) → TableInRange (T t)) (λ k s q. (q.1.now, q.1.saved)) before (λ l. start_ranged) old buffer
