-- What a statement that makes a mark means, at that mark. Assumes nothing.
use Rattle.std.proofs.Common.{◌≡◌, ℕ, Bool, true, false, cond, not, ◌↔◌, List, [], ◌∷◌, pos, sym, refl, ap, ◌∙◌, subst, ap₂, arith, tests}
use mathlib.Core.Logic.Iff
use mathlib.Core.Option.{Option, none, some}
use Rattle.meaning.specs.Values.{bind, rest}
use Rattle.meaning.specs.Syntax.{num, Condition, Write, target, Block, ◌⨾◌, ◌then◌, branch, while, next, write, Exception, K, F, C, D, Mark, branched, turned, fetched, wrote, fls}
use Rattle.meaning.specs.Evaluation.{truth}
use Rattle.meaning.specs.Schema.{Schema, key_of, ref_at}
use Rattle.meaning.specs.Tables.{Table, Case}
use Rattle.meaning.specs.Writes.{left, lost, holds_one, fitting, passes, broken}
use Rattle.meaning.specs.State.{Cursor, State, env, set_int, set_cursor, set_table}
use Rattle.meaning.specs.Run.{need, done, thrown, throws, goes, ahead, some_row, fetches}
use Rattle.meaning.specs.Paths.{same_x}
use Rattle.meaning.specs.Records.{is, rest_of, after, that, rows, held, def_i, fact, Stand, never, before, on, Symbols, next_i, next_t, write_of, cond_of, new_int, new_table, stands, becomes}
use Rattle.meaning.specs.Conditions.{Drawn, ◌▸◌, later, over, trial, trials, done_s, thrown_s, outcome_s, next_s, branch_s, while_s, fetch_s, write_s}
use Rattle.meaning.specs.Truth.{Valuation, put_t, holds, table_of, given}
use Rattle.meaning.proofs.Basics.{some_iff, some_inj, none_some, put_same, subst_iff, subst₂-iff, one_iff, false_true, nil_cons, cons_tail}
use Rattle.meaning.proofs.Meaning.{Means, means_iff, agree_refl, Fixed}
use Rattle.meaning.proofs.Moving.{From, By, from_step, by_need, by_mark, by_now, first_done, first_thrown, by_pick, written, from_write}
use Rattle.meaning.proofs.States.{state, cursor_of, cnd_is, left_is, lost_is, target_map, state_stands, state_becomes}
use Rattle.meaning.proofs.Symbols.{Stable, stable_int, stable_table, stable_stands, stable_becomes, table_put}
use Rattle.meaning.proofs.Defining.{sim_int, sim_table, sim_fact}

-- the truth that a mark of IF, WHILE or NEXT tells
abbrev truth_of : Mark → Bool
truth_of (branched b) = b
truth_of (turned b) = b
truth_of (fetched b) = b
truth_of (wrote o) = true

-- the exception that a mark of a write tells
abbrev thrown_of : Mark → Option Exception
thrown_of (branched b) = none
thrown_of (turned b) = none
thrown_of (fetched b) = none
thrown_of (wrote o) = o

module _ (S : Schema) (R : ℕ) (κ : Case) (p : List Mark) (more : Block → Symbols → Drawn)
    (ih : (k : Block) (σ : Symbols) → Stable σ → Means S R κ σ (more k σ) (λ V. From S R κ k (state σ V) p)) where
  done_means : (h : Option ℕ) (m : Mark) (k : Block) (σ : Symbols) → Stable σ →
      Means S R κ σ (done_s S more (later (over p)) h k σ) (λ V. By S R κ (done h m k (state σ V)) (m ∷ p))
  done_means none m k σ st = means_iff S R κ σ (more k σ) _ _ (λ V. by_now S R κ m k (state σ V) p) (ih k σ st)
  done_means (some v) m k σ st =
      means_iff S R κ σ (def_i (next_i σ) (is (num (pos 0))) ▸ more k (new_int σ v)) _ _
      (λ V. Iff.trans (one_iff (pos 0) (λ z. From S R κ k (set_int (state σ V) v z) p)) (by_now S R κ m k (set_int (state σ V) v (pos 0)) p))
      (sim_int S R κ σ st v (is (num (pos 0))) (λ s. some (pos 0)) (λ V. refl) (more k (new_int σ v)) (λ s. From S R κ k s p) (ih k (new_int σ v) (stable_int σ st v)))

  over_means : (q : List Mark) (m : Mark) (σ : Symbols) → Means S R κ σ (later (over q)) (λ V. By S R κ (throws m) (m ∷ q))
  over_means [] m σ = (tt, λ V. (λ s. (0, refl), λ b. (V, agree_refl σ V, tt)))
  over_means (x ∷ q) m σ = λ V b. nil_cons (cons_tail (some_inj b.1))

  thrown_means : (h : Option ℕ) (m : Mark) (k : Block) (σ : Symbols) → Stable σ →
      Means S R κ σ (thrown_s S more (later (over p)) h k σ) (λ V. By S R κ (thrown h m k (state σ V)) (m ∷ p))
  thrown_means none m k σ st = over_means p m σ
  thrown_means (some v) m k σ st =
      means_iff S R κ σ (def_i (next_i σ) (is (num (pos 1))) ▸ more k (new_int σ v)) _ _
      (λ V. Iff.trans (one_iff (pos 1) (λ z. From S R κ k (set_int (state σ V) v z) p)) (by_now S R κ m k (set_int (state σ V) v (pos 1)) p))
      (sim_int S R κ σ st v (is (num (pos 1))) (λ s. some (pos 1)) (λ V. refl) (more k (new_int σ v)) (λ s. From S R κ k s p) (ih k (new_int σ v) (stable_int σ st v)))

  -- ---- IF and WHILE

  pub branch_means : (b : Bool) (c : Condition ℕ ℕ ℕ) (x y k : Block) (σ : Symbols) → Stable σ →
      Means S R κ σ (branch_s S more (later (over p)) (branched b) c x y k σ) (λ V. From S R κ (branch c x y ⨾ k) (state σ V) (branched b ∷ p))
  branch_means b c x y k σ st =
      means_iff S R κ σ _ _ _
      (λ V. let s = state σ V in
      let M = λ (t : Bool). goes (some (branched t)) (cond t x y then k) s in
      Iff.trans (Iff.trans (λ q. (q.0, (by_now S R κ (branched b) (cond b x y then k) s p).0 q.1), λ q. (q.0, (by_now S R κ (branched b) (cond b x y then k) s p).1 q.1))
      (by_pick S R κ (truth (env s) none c) M branched p (λ a a' z. ap truth_of ((by_mark S R κ (branched a) (branched a') (cond a x y then k) s p).1 z).0) b))
      (from_step S R κ (branch c x y ⨾ k) s (branched b ∷ p)))
      (sim_fact S R κ σ b (that (cond_of σ c)) (λ V. truth (env (state σ V)) none c) (λ V. cnd_is σ V none c) (λ V V' a. ap (λ s. truth (env s) none c) (st V V' a)) (more (cond b x y then k) σ) (λ V. From S R κ (cond b x y then k) (state σ V) p) (ih (cond b x y then k) σ st))

  pub while_means : (b : Bool) (c : Condition ℕ ℕ ℕ) (x k : Block) (σ : Symbols) → Stable σ →
      Means S R κ σ (while_s S more (later (over p)) (turned b) c x k σ) (λ V. From S R κ (while c x ⨾ k) (state σ V) (turned b ∷ p))
  while_means b c x k σ st =
      let N = λ (t : Bool). cond t (x then (while c x ⨾ k)) k in
      means_iff S R κ σ _ _ _
      (λ V. let s = state σ V in
      let M = λ (t : Bool). goes (some (turned t)) (N t) s in
      Iff.trans (Iff.trans (λ q. (q.0, (by_now S R κ (turned b) (N b) s p).0 q.1), λ q. (q.0, (by_now S R κ (turned b) (N b) s p).1 q.1))
      (by_pick S R κ (truth (env s) none c) M turned p (λ a a' z. ap truth_of ((by_mark S R κ (turned a) (turned a') (N a) s p).1 z).0) b))
      (from_step S R κ (while c x ⨾ k) s (turned b ∷ p)))
      (sim_fact S R κ σ b (that (cond_of σ c)) (λ V. truth (env (state σ V)) none c) (λ V. cnd_is σ V none c) (λ V V' a. ap (λ s. truth (env s) none c) (st V V' a)) (more (N b) σ) (λ V. From S R κ (N b) (state σ V) p) (ih (N b) σ st))

  -- ---- NEXT

  fetch_tells : (h : Option ℕ) (v : ℕ) (k : Block) (s : State) (X : Table) (a b : Bool) → By S R κ (fetches h v k s X a) (fetched b ∷ p) → a ≡ b
  fetch_tells h v k s X true b z = ap truth_of (first_done S R κ h (fetched true) (fetched b) k (set_cursor s v (record { rows = X; on = true })) p z)
  fetch_tells h v k s X false b z = ap truth_of (first_thrown S R κ h (fetched false) (fetched b) k s p z)

  -- the rows ahead are X
  abbrev Fetch : Option ℕ → ℕ → Block → Bool → State → Table → Type 0
  Fetch h v k b s X = (some (some_row X) ≡ some b) × By S R κ (fetches h v k s X b) (fetched b ∷ p)

  -- NEXT finds rows ahead
  abbrev Finding : Option ℕ → ℕ → Block → Bool → State → Option Table → Type 0
  Finding h v k b s o = (X : Table) × (o ≡ some X) × Fetch h v k b s X

  fetch_from : (h : Option ℕ) (v : ℕ) (k : Block) (b : Bool) (s : State) → Finding h v k b s (ahead (s.vars.cursors v)) ↔ From S R κ (next v h ⨾ k) s (fetched b ∷ p)
  fetch_from h v k b s =
      Iff.trans (some_iff _ _ _ _ refl (λ X. by_pick S R κ (some (some_row X)) (fetches h v k s X) fetched p (fetch_tells h v k s X) b))
      (Iff.trans (by_need S R κ (ahead (s.vars.cursors v)) (λ X. fetches h v k s X (some_row X)) (fetched b ∷ p)) (from_step S R κ (next v h ⨾ k) s (fetched b ∷ p)))

  module _ (h : Option ℕ) (v : ℕ) (k : Block) (σ : Symbols) (st : Stable σ) where
    -- a known symbol n holds the rows ahead
    ahead_means : (b : Bool) (n : ℕ) (σ' : Symbols) → Stable σ' → Fixed σ' (λ V. V.t n) →
        Means S R κ σ' (fact b (rows n) ▸ elim b [ true ↦ done_s S more (later (over p)) h k (stands σ' v (on n)) | false ↦ thrown_s S more (later (over p)) h k σ' ])
        (λ V. Fetch h v k b (state σ' V) (V.t n))
    ahead_means true n σ' st' fix =
        sim_fact S R κ σ' true (rows n) (λ V. some (some_row (V.t n))) (λ V. refl) (λ V V' a. ap (λ X. some (some_row X)) (fix V V' a)) _ _
        (means_iff S R κ σ' _ _ _ (λ V. subst_iff (λ s. By S R κ (done h (fetched true) k s) (fetched true ∷ p)) (state_stands σ' V v (on n)))
        (done_means h (fetched true) k (stands σ' v (on n)) (stable_stands σ' st' v (on n) (λ V V' a. ap {B = Cursor} (λ X. record { rows = X; on = true }) (fix V V' a)))))
    ahead_means false n σ' st' fix =
        sim_fact S R κ σ' false (rows n) (λ V. some (some_row (V.t n))) (λ V. refl) (λ V V' a. ap (λ X. some (some_row X)) (fix V V' a)) _ _
        (thrown_means h (fetched false) k σ' st')

    -- the symbol that a cursor stands at is known
    stood_fixed : (c : Stand) → σ.held.vars.cursors v ≡ c → Fixed σ (λ V. (cursor_of V c).rows)
    stood_fixed c e V V' a = subst (λ c. (cursor_of V c).rows ≡ (cursor_of V' c).rows) e (ap (λ s. (s.vars.cursors v).rows) (st V V' a))

    found : (b : Bool) (d : Drawn) (X : Valuation → Table) → Means S R κ σ d (λ V. Fetch h v k b (state σ V) (X V)) → Means S R κ σ d (λ V. Finding h v k b (state σ V) (some (X V)))
    found b d X = means_iff S R κ σ d _ _ (λ V. Iff.symm (one_iff (X V) (Fetch h v k b (state σ V))))

    next_means : (c : Stand) → σ.held.vars.cursors v ≡ c → (b : Bool) →
        Means S R κ σ (next_s S more (later (over p)) c b v h k σ) (λ V. Finding h v k b (state σ V) (ahead (cursor_of V c)))
    next_means never e true =
        found true _ (λ V. []) (means_iff S R κ σ _ _ _ (λ V. (λ q. absurd (false_true (some_inj q.0)), λ q. absurd (false_true (some_inj q.0))))
        (sim_fact S R κ σ true (that fls) (λ V. some false) (λ V. refl) (λ V V' a. refl) _ _ (done_means h (fetched true) k σ st)))
    next_means never e false = found false _ (λ V. []) (means_iff S R κ σ _ _ _ (λ V. (λ q. (refl, q), λ q. q.1)) (thrown_means h (fetched false) k σ st))
    next_means (before n) e true = found true _ (λ V. V.t n) (ahead_means true n σ st (stood_fixed (before n) e))
    next_means (before n) e false = found false _ (λ V. V.t n) (ahead_means false n σ st (stood_fixed (before n) e))
    next_means (on n) e b = go b
      where
        rest_iff : (b : Bool) (V : Valuation) → ((X : Table) × (ahead ((state σ V).vars.cursors v) ≡ some X) × Fetch h v k b (state (new_table σ) (put_t V (next_t σ) X)) ((put_t V (next_t σ) X).t (next_t σ)))
            ↔ Finding h v k b (state σ V) (rest (V.t n))
        rest_iff b V =
            some_iff _ _ _ (λ X. Fetch h v k b (state σ V) X) (ap (λ c. ahead (cursor_of V c)) e)
            (λ X. subst₂-iff (Fetch h v k b) (table_put σ st V X) (put_same V.t (next_t σ) X))

        go : (b : Bool) → Means S R κ σ (next_s S more (later (over p)) (on n) b v h k σ) (λ V. Finding h v k b (state σ V) (rest (V.t n)))
        go true =
            means_iff S R κ σ _ _ _ (rest_iff true)
            (sim_table S R κ σ st (rest_of n) (λ s. ahead (s.vars.cursors v)) (λ V. ap (λ c. ahead (cursor_of V c)) (sym e)) _ (λ V. Fetch h v k true (state (new_table σ) V) (V.t (next_t σ)))
            (ahead_means true (next_t σ) (new_table σ) (stable_table σ st) (λ V V' a. a.tables σ.used.t (omega arith))))
        go false =
            means_iff S R κ σ _ _ _ (rest_iff false)
            (sim_table S R κ σ st (rest_of n) (λ s. ahead (s.vars.cursors v)) (λ V. ap (λ c. ahead (cursor_of V c)) (sym e)) _ (λ V. Fetch h v k false (state (new_table σ) V) (V.t (next_t σ)))
            (ahead_means false (next_t σ) (new_table σ) (stable_table σ st) (λ V V' a. a.tables σ.used.t (omega arith))))

    pub fetch_means : (b : Bool) → Means S R κ σ (fetch_s S more (later (over p)) (fetched b) v h k σ) (λ V. From S R κ (next v h ⨾ k) (state σ V) (fetched b ∷ p))
    fetch_means b = means_iff S R κ σ (next_s S more (later (over p)) (σ.held.vars.cursors v) b v h k σ) _ _ (λ V. fetch_from h v k b (state σ V)) (next_means (σ.held.vars.cursors v) refl b)

-- ---- the tests of a write

pub same_is : (x y : Exception) → same_x x y ≡ true → x ≡ y
same_is x y e = grind (arith, tests)

pub same_refl : (x : Exception) → same_x x x ≡ true
same_refl x = grind (arith, tests)

not_iff : (o : Option Bool) (b : Bool) → (o ≡ some (not b)) ↔ (bind o (λ h. some (not h)) ≡ some b)
not_iff o b = (λ q. grind arith, λ q. grind arith)

-- a test passed, and none thrown by it
pass_iff : (g : Option Bool) (r : Option (Option Exception)) (x : Exception) (o : Option Exception) (Q : Type 0) → (some x ≡ o → ⊥) →
    ((g ≡ some true) × ((r ≡ some o) × Q)) ↔ ((bind g (λ b. cond b r (some (some x))) ≡ some o) × Q)
pass_iff g r x o Q ne = (λ q. (grind arith, q.1.1), λ q. (grind arith, (grind arith, q.1)))

fail_iff : (g : Option Bool) (r : Option (Option Exception)) (x : Exception) (Q : Type 0) → (r ≡ some (some x) → g ≡ some false) →
    ((g ≡ some false) × Q) ↔ ((bind g (λ b. cond b r (some (some x))) ≡ some (some x)) × Q)
fail_iff g r x Q once = (λ q. (grind arith, q.1), λ q. (grind arith, q.1))

-- what a later test throws has not passed
broken_is : (f : Exception → Option Bool) (xs : List Exception) (x : Exception) → broken f xs ≡ some (some x) → f x ≡ some false
broken_is f [] x e = grind arith
broken_is f (y ∷ ys) x e = let rec = broken_is f ys x in grind arith

module _ (S : Schema) (R : ℕ) (κ : Case) (w : Write ℕ ℕ ℕ) (σ : Symbols) (st : Stable σ) where
  -- the outcome_s of a test, the table left being the next symbol
  abbrev passing : Valuation → Exception → Option Bool
  passing V x = passes S (env (state σ V)) (state σ V).tables.now w (V.t (next_t σ)) x

  passing_fixed : (x : Exception) → Fixed (new_table σ) (λ V. passing V x)
  passing_fixed x V V' a = ap₂ (λ s X. passes S (env s) s.tables.now w X x) (stable_table σ st V V' a) (a.tables σ.used.t (omega arith))

  held_is : (n : ℕ) (V : Valuation) → holds S R κ V (held n (σ.held.tables.now (ref_at S n).of) (σ.held.tables.now (target w)) (write_of σ w))
      ≡ holds_one (key_of S (target w)) (ref_at S n).from ((state σ V).tables.now (ref_at S n).of) (lost S (env (state σ V)) w) ((state σ V).tables.now (target w))
  held_is n V = ap₂ (λ t g. holds_one (key_of S t) (ref_at S n).from ((state σ V).tables.now (ref_at S n).of) g ((state σ V).tables.now (target w))) (target_map _ _ _ (given V) w) (lost_is σ V S w)

  trial_means : (x : Exception) (b : Bool) (d : Drawn) (Q : Valuation → Type 0) → Means S R κ (new_table σ) d Q →
      Means S R κ (new_table σ) (trial S σ w (next_t σ) x b ▸ d) (λ V. (passing V x ≡ some b) × Q V)
  trial_means K b d Q h = sim_fact S R κ (new_table σ) b _ (λ V. passing V K) (λ V. refl) (passing_fixed K) d Q h
  trial_means (F n) b d Q h = sim_fact S R κ (new_table σ) b _ (λ V. passing V (F n)) (λ V. refl) (passing_fixed (F n)) d Q h
  trial_means (C n) b d Q h = sim_fact S R κ (new_table σ) b _ (λ V. passing V (C n)) (λ V. refl) (passing_fixed (C n)) d Q h
  trial_means (D n) b d Q h =
      let G : Valuation → Option Bool = λ V. holds_one (key_of S (target w)) (ref_at S n).from ((state σ V).tables.now (ref_at S n).of) (lost S (env (state σ V)) w) ((state σ V).tables.now (target w)) in
      means_iff S R κ (new_table σ) _ _ _ (λ V. (λ q. ((not_iff (G V) b).0 q.0, q.1), λ q. ((not_iff (G V) b).1 q.0, q.1)))
      (sim_fact S R κ (new_table σ) (not b) _ G (held_is n)
      (λ V V' a. ap (λ s. holds_one (key_of S (target w)) (ref_at S n).from (s.tables.now (ref_at S n).of) (lost S (env s) w) (s.tables.now (target w))) (stable_table σ st V V' a)) d Q h)

  trials_means : (o : Option Exception) (xs : List Exception) (d : Drawn) (Q : Valuation → Type 0) → Means S R κ (new_table σ) d Q →
      Means S R κ (new_table σ) (trials (trial S σ w (next_t σ)) o xs d) (λ V. (broken (passing V) xs ≡ some o) × Q V)
  trials_means none [] d Q h = means_iff S R κ (new_table σ) d _ _ (λ V. (λ q. (refl, q), λ q. q.1)) h
  trials_means none (x ∷ xs) d Q h =
      means_iff S R κ (new_table σ) _ _ _ (λ V. pass_iff (passing V x) (broken (passing V) xs) x none (Q V) (λ e. none_some (sym e)))
      (trial_means x true _ (λ V. (broken (passing V) xs ≡ some none) × Q V) (trials_means none xs d Q h))
  trials_means (some y) [] d Q h = λ V q. none_some (some_inj q.0)
  trials_means (some y) (x ∷ xs) d Q h = go (same_x x y) refl (trials_means (some y) xs d Q h)
    where
      go : (t : Bool) → same_x x y ≡ t → Means S R κ (new_table σ) (trials (trial S σ w (next_t σ)) (some y) xs d) (λ V. (broken (passing V) xs ≡ some (some y)) × Q V) →
          Means S R κ (new_table σ) (elim t [ true ↦ trial S σ w (next_t σ) x false ▸ d | false ↦ trial S σ w (next_t σ) x true ▸ trials (trial S σ w (next_t σ)) (some y) xs d ]) (λ V. (broken (passing V) (x ∷ xs) ≡ some (some y)) × Q V)
      go true e rec =
          subst (λ z. Means S R κ (new_table σ) (trial S σ w (next_t σ) x false ▸ d) (λ V. (broken (passing V) (x ∷ xs) ≡ some (some z)) × Q V)) (same_is x y e)
          (means_iff S R κ (new_table σ) _ _ _ (λ V. fail_iff (passing V x) (broken (passing V) xs) x (Q V) (broken_is (passing V) xs x)) (trial_means x false d Q h))
      go false e rec =
          means_iff S R κ (new_table σ) _ _ _ (λ V. pass_iff (passing V x) (broken (passing V) xs) x (some y) (Q V) (λ q. false_true (sym e ∙ ap (λ z. same_x z y) (some_inj q) ∙ same_refl y)))
          (trial_means x true _ (λ V. (broken (passing V) xs ≡ some (some y)) × Q V) rec)

-- ---- writes

module _ (S : Schema) (R : ℕ) (κ : Case) (p : List Mark) (more : Block → Symbols → Drawn)
    (ih : (k : Block) (σ : Symbols) → Stable σ → Means S R κ σ (more k σ) (λ V. From S R κ k (state σ V) p))
    (w : Write ℕ ℕ ℕ) (h : Option ℕ) (k : Block) where
  write_tells : (s : State) (X : Table) (a b : Option Exception) → By S R κ (written h w k s X a) (wrote b ∷ p) → a ≡ b
  write_tells s X none b z = ap thrown_of (first_done S R κ h (wrote none) (wrote b) k (set_table s (target w) X) p z)
  write_tells s X (some x) b z = ap thrown_of (first_thrown S R κ h (wrote (some x)) (wrote b) k s p z)

  outcome_means : (o : Option Exception) (σ : Symbols) → Stable σ →
      Means S R κ (new_table σ) (outcome_s S more (later (over p)) o h (target w) k σ) (λ V. By S R κ (written h w k (state σ V) (V.t (next_t σ)) o) (wrote o ∷ p))
  outcome_means none σ st =
      means_iff S R κ (new_table σ) _ _ _ (λ V. subst_iff (λ s. By S R κ (done h (wrote none) k s) (wrote none ∷ p)) (state_becomes (new_table σ) V (target w) (next_t σ)))
      (done_means S R κ p more ih h (wrote none) k (becomes (new_table σ) (target w) (next_t σ)) (stable_becomes (new_table σ) (stable_table σ st) (target w) (next_t σ) (λ V V' a. a.tables σ.used.t (omega arith))))
  outcome_means (some x) σ st = thrown_means S R κ p more ih h (wrote (some x)) k (new_table σ) (stable_table σ st)

  -- the table left is X
  abbrev Left : Option Exception → State → Table → Type 0
  Left o s X = (broken (passes S (env s) s.tables.now w X) (fitting S w) ≡ some o) × By S R κ (written h w k s X o) (wrote o ∷ p)

  pub write_means : (o : Option Exception) (σ : Symbols) → Stable σ →
      Means S R κ σ (write_s S more (later (over p)) (wrote o) w h k σ) (λ V. From S R κ (write w h ⨾ k) (state σ V) (wrote o ∷ p))
  write_means o σ st =
      let G : State → Option Table = λ s. left S R (env s) w (s.tables.now (target w)) in
      means_iff S R κ σ _ _ _
      (λ V. let s = state σ V in
      Iff.trans (some_iff (G s) (G s) _ (λ X. By S R κ (need (broken (passes S (env s) s.tables.now w X) (fitting S w)) (written h w k s X)) (wrote o ∷ p)) refl
      (λ X. Iff.trans (subst₂-iff (Left o) (table_put σ st V X) (put_same V.t (next_t σ) X))
      (by_pick S R κ (broken (passes S (env s) s.tables.now w X) (fitting S w)) (written h w k s X) wrote p (write_tells s X) o)))
      (Iff.trans (by_need S R κ (G s) (λ X. need (broken (passes S (env s) s.tables.now w X) (fitting S w)) (written h w k s X)) (wrote o ∷ p)) (from_write S R κ w h k s (wrote o ∷ p))))
      (sim_table S R κ σ st (after (σ.held.tables.now (target w)) (write_of σ w)) G (λ V. left_is σ V S R w (table_of V (σ.held.tables.now (target w)))) _ (λ V. Left o (state σ V) (V.t (next_t σ)))
      (trials_means S R κ w σ st o (fitting S w) _ _ (outcome_means o σ st)))
