-- The life of a register: lawful tables, commits, rollbacks and events that change nothing. Assumes nothing.
use Rattle.std.proofs.Common.{◌≡◌, ℕ, zero, suc, Bool, true, false, cond, eqb, leb, List, [], ◌∷◌, ◌++◌, map, length, sym, refl, ap, ◌∙◌, subst, arith, eqb-true, le-leb}
use mathlib.Core.Option.{Option, none, some}
use Rattle.meaning.specs.Values.{put, nth, numbered}
use Rattle.meaning.specs.Syntax.{num, Write, insert, target, Block, Mark}
use Rattle.meaning.specs.Evaluation.{Row, cut, Env, blank}
use Rattle.meaning.specs.Schema.{Shape, Schema, Model, key_of, no_shape, refs_of, checks_of}
use Rattle.meaning.specs.Tables.{Table, ascending, in_order, LawfulTables, Lawful, Case, begun}
use Rattle.meaning.specs.Writes.{Outcome, halted, threw, stored, perform}
use Rattle.meaning.specs.State.{Stored, committed, State}
use Rattle.meaning.specs.Run.{step}
use Rattle.meaning.specs.Following.{following, tracing}
use Rattle.meaning.specs.Ranges.{write_in_range, CaseInRange, TableInRange, InRangeBoth}
use Rattle.meaning.specs.Register.{Event, insert_row, run_update, run_delete, commit_now, roll_back, Answer, done, exception, stopped, unknown, Reply, reply, act, inserting, running, happens, after_events, updates, deletes, writes_in, born, no_rows}
use Rattle.meaning.specs.Theorems.{NoCommit, Life}
use Rattle.meaning.proofs.Basics.{put_all}
use Rattle.meaning.proofs.Members.{every_in, below_every, nth_get_d}
use Rattle.meaning.proofs.Lawful.{LawfulTable, lawful_iff}
use Rattle.meaning.proofs.Rows.{left_ascending, in_order_ascending}
use Rattle.meaning.proofs.Performs.{done_by, done_lawful}
use Rattle.meaning.proofs.Ranges.{left_ranged, begun_ranged}
use Rattle.meaning.proofs.Moves.{OnMove}
use Rattle.meaning.proofs.Runs.{Both, Keeps, on_tables, preserved, following_keeps, tracing_keeps}

-- ---- what an event does to the tables

-- every write of values in range that is done keeps P
abbrev pub KeepsInRange : Schema → ℕ → ((ℕ → Table) → Type 0) → Type 0
KeepsInRange S R P = (η : Env ℕ ℕ ℕ) (w : Write ℕ ℕ ℕ) (T : ℕ → Table) (X : Table) → write_in_range η w ≡ true → perform S R η T w ≡ stored X → P T → P (put T (target w) X)

-- an event that is no commit and no rollback
record Fine (P : (ℕ → Table) → Type 0) (d : Stored Table) (a : Reply) : Type 0 where
  holds : P d.now → P a.tables.now
  saved : a.tables.saved ≡ d.saved
  unless_done : ¬ (a.answer ≡ done) → a.tables ≡ d

left_alone : (P : (ℕ → Table) → Type 0) (d : Stored Table) (x : Answer) → Fine P d (record { answer = x; tables = d })
left_alone P d x = record { holds = λ l. l; saved = refl; unless_done = λ n. refl }

reply_fine : (P : (ℕ → Table) → Type 0) (d : Stored Table) (t : ℕ) (o : Outcome) → ((T : Table) → o ≡ stored T → P d.now → P (put d.now t T)) → Fine P d (reply d t o)
reply_fine P d t halted f = left_alone P d stopped
reply_fine P d t (threw x) f = left_alone P d (exception x)
reply_fine P d t (stored T) f = record { holds = f T refl; saved = refl; unless_done = λ n. absurd (n refl) }

act_fine : (S : Schema) (R : ℕ) (P : (ℕ → Table) → Type 0) → KeepsInRange S R P → (d : Stored Table) (η : Env ℕ ℕ ℕ) (w : Write ℕ ℕ ℕ) → Fine P d (act S R d η w)
act_fine S R P keep d η w = go (write_in_range η w) refl
  where
    go : (b : Bool) → write_in_range η w ≡ b → Fine P d (reply d (target w) (cond b (perform S R η d.now w) halted))
    go true e = reply_fine P d (target w) (perform S R η d.now w) (λ T q. keep η w d.now T e q)
    go false e = left_alone P d stopped

module _ (M : Model) (R : ℕ) (P : (ℕ → Table) → Type 0) (keep : KeepsInRange M.schema R P) where
  insert_fine : (d : Stored Table) (t : ℕ) (r : Row) → Fine P d (happens M R d (insert_row t r))
  insert_fine d t r = go (numbered M.schema.tables t)
    where
      go : (o : Option Shape) → Fine P d (inserting M R d t r o)
      go none = left_alone P d (unknown t)
      go (some h) = act_fine M.schema R P keep d blank (insert t (map num (cut h.width r)))

  running_fine : (d : Stored Table) (n : ℕ) (η : Env ℕ ℕ ℕ) (o : Option (Write ℕ ℕ ℕ)) → Fine P d (running M R d n η o)
  running_fine d n η none = left_alone P d (unknown n)
  running_fine d n η (some w) = act_fine M.schema R P keep d η w

  update_fine : (d : Stored Table) (n : ℕ) (η : Env ℕ ℕ ℕ) → Fine P d (happens M R d (run_update n η))
  update_fine d n η = running_fine d n η (numbered (updates (writes_in M.program)) n)

  delete_fine : (d : Stored Table) (n : ℕ) (η : Env ℕ ℕ ℕ) → Fine P d (happens M R d (run_delete n η))
  delete_fine d n η = running_fine d n η (numbered (deletes (writes_in M.program)) n)

  event_unchanged : (d : Stored Table) (e : Event) → ¬ ((happens M R d e).answer ≡ done) → (happens M R d e).tables ≡ d
  event_unchanged d (insert_row t r) n = (insert_fine d t r).unless_done n
  event_unchanged d (run_update m η) n = (update_fine d m η).unless_done n
  event_unchanged d (run_delete m η) n = (delete_fine d m η).unless_done n
  event_unchanged d commit_now n = absurd (n refl)
  event_unchanged d roll_back n = absurd (n refl)

  fine_both : (d : Stored Table) (a : Reply) → Fine P d a → Both P d → Both P a.tables
  fine_both d a f b = (f.holds b.0, subst P (sym f.saved) b.1)

  event_keeps : (d : Stored Table) (e : Event) → Both P d → Both P (happens M R d e).tables
  event_keeps d (insert_row t r) b = fine_both d _ (insert_fine d t r) b
  event_keeps d (run_update n η) b = fine_both d _ (update_fine d n η) b
  event_keeps d (run_delete n η) b = fine_both d _ (delete_fine d n η) b
  event_keeps d commit_now b = (b.0, b.0)
  event_keeps d roll_back b = (b.1, b.1)

  pub life_keeps : (es : List Event) (d : Stored Table) → Both P d → Both P (after_events M R d es)
  life_keeps [] d b = b
  life_keeps (e ∷ es) d b = life_keeps es (happens M R d e).tables (event_keeps d e b)

  -- without a commit the saved tables stay
  still_saved : (es : List Event) (d : Stored Table) → NoCommit es → (after_events M R d es).saved ≡ d.saved
  still_saved [] d h = refl
  still_saved (insert_row t r ∷ es) d h = still_saved es _ h ∙ (insert_fine d t r).saved
  still_saved (run_update n η ∷ es) d h = still_saved es _ h ∙ (update_fine d n η).saved
  still_saved (run_delete n η ∷ es) d h = still_saved es _ h ∙ (delete_fine d n η).saved
  still_saved (commit_now ∷ es) d h = absurd h
  still_saved (roll_back ∷ es) d h = still_saved es _ h

  after_both : (es fs : List Event) (d : Stored Table) → after_events M R d (es ++ fs) ≡ after_events M R (after_events M R d es) fs
  after_both [] fs d = refl
  after_both (e ∷ es) fs d = after_both es fs (happens M R d e).tables

  rolled : (es : List Event) (d : Stored Table) → NoCommit es → (after_events M R d (es ++ (roll_back ∷ []))).now ≡ d.saved
  rolled es d h = ap (λ x. x.now) (after_both es (roll_back ∷ []) d) ∙ still_saved es d h

-- ---- born empty

begun_none : (S : Schema) (t : ℕ) → begun S no_rows t ≡ []
begun_none S t = go (numbered S.tables t)
  where
    go : (o : Option Shape) → ◌≡◌ {A = Table} (elim o [ none ↦ [] | some h ↦ in_order h.key [] ]) []
    go none = refl
    go (some h) = refl

born_empty : (S : Schema) (R : ℕ) → Lawful S R no_rows
born_empty S R = (lawful_iff S R (begun S no_rows)).1 (below_every (LawfulTable S R (begun S no_rows)) 1 S.tables (λ t lo hi. record {
  fits = subst (λ X. leb (length X) R ≡ true) (sym (begun_none S t)) (le-leb 0 R (omega arith));
  keyed = rw (begun_none S t);
  found = (every_in _ (refs_of S t)).1 (λ n i. rw (begun_none S t));
  checked = (every_in _ (checks_of S t)).1 (λ n i. rw (begun_none S t));
}))

-- ---- what is kept: laws, key order, the range of values

lawful_kept : (S : Schema) (R : ℕ) → Keeps S R (LawfulTables S R)
lawful_kept S R η w T X = done_lawful S R η T w X

-- each table is in order of its keys
abbrev InOrder : Schema → (ℕ → Table) → Type 0
InOrder S T = (t : ℕ) → ascending (key_of S t) (T t) ≡ true

order_kept : (S : Schema) (R : ℕ) → Keeps S R (InOrder S)
order_kept S R η w T X e o t = go (eqb t (target w)) refl
  where
    go : (b : Bool) → eqb t (target w) ≡ b → ascending (key_of S t) (cond b X (T t)) ≡ true
    go true q = subst (λ u. ascending (key_of S u) X ≡ true) (sym (eqb-true _ _ q)) (left_ascending S R η w (T (target w)) X (done_by S R η T w X e).0 (o (target w)))
    go false q = o t

born_in_order : (S : Schema) (κ : Case) → InOrder S (begun S κ)
born_in_order S κ zero = refl
born_in_order S κ (suc t) = go (nth S.tables t) refl
  where
    go : (o : Option Shape) → nth S.tables t ≡ o → ascending (key_of S (suc t)) (elim o [ none ↦ [] | some h ↦ in_order h.key (map (cut h.width) (κ.rows (suc t))) ]) ≡ true
    go none e = refl
    go (some h) e = subst (λ k. ascending k (in_order h.key (map (cut h.width) (κ.rows (suc t)))) ≡ true) (sym (ap (λ x. x.key) (nth_get_d S.tables t h no_shape e))) (in_order_ascending h.key (map (cut h.width) (κ.rows (suc t))))

-- each table's values are in range
abbrev AllInRange : (ℕ → Table) → Type 0
AllInRange T = (t : ℕ) → TableInRange (T t)

range_kept : (S : Schema) (R : ℕ) → KeepsInRange S R AllInRange
range_kept S R η w T X h e o = put_all TableInRange T (target w) X (left_ranged S R η w (T (target w)) X h (done_by S R η T w X e).0 (o (target w))) o

-- ---- following and tracing, and a life

module _ (M : Model) (R : ℕ) where
  -- the tables are lawful
  abbrev Laws : (ℕ → Table) → Type 0
  Laws = LawfulTables M.schema R

  laws_kept : KeepsInRange M.schema R Laws
  laws_kept η w T X h = lawful_kept M.schema R η w T X

  module _ (κ : Case) (before : Stored Table) (old : Both Laws before) where
    laws_step : (k : Block) (s : State) → Both Laws s.tables → OnMove (λ k s. Both Laws s.tables) (step M.schema R κ k s)
    laws_step = preserved M.schema R κ (λ s. Both Laws s.tables) (on_tables M.schema R Laws (lawful_kept M.schema R))

    pub following_lawful : (p : List Mark) → Both Laws (following M R κ p before).tables
    following_lawful p =
        following_keeps M R κ (λ k s. Both Laws s.tables) laws_step Laws (λ k s b. b) before (λ l. (l, l)) old p

    pub tracing_lawful : (buffer : ℕ) → Both Laws (tracing M R κ buffer before).tables
    tracing_lawful buffer =
        tracing_keeps M R κ (λ k s. Both Laws s.tables) laws_step Laws (λ k s b. b) before (λ l. (l, l)) old buffer

  pub life_ranged : (κ : Case) → CaseInRange κ → (es : List Event) → InRangeBoth (after_events M R (born M.schema κ) es)
  life_ranged κ h es = life_keeps M R AllInRange (range_kept M.schema R) es (born M.schema κ) (λ t. begun_ranged M.schema κ t (h.rows t), λ t. begun_ranged M.schema κ t (h.rows t))

  pub life : Life M R
  life = record {
    empty = born_empty M.schema R;
    lawful = λ κ l es. life_keeps M R Laws laws_kept es (born M.schema κ) (l, l);
    ordered = λ κ es t.
        let o = life_keeps M R (InOrder M.schema) (λ η w T X h. order_kept M.schema R η w T X) es (born M.schema κ) (born_in_order M.schema κ, born_in_order M.schema κ) in
        (o.0 t, o.1 t);
    unchanged = event_unchanged M R Laws laws_kept;
    commit = λ d. (refl, refl);
    rollback = λ d. refl;
    back_to_commit = λ d es later n. ap (λ x. x.now) (after_both M R Laws laws_kept es (commit_now ∷ (later ++ (roll_back ∷ []))) d) ∙ rolled M R Laws laws_kept later (committed (after_events M R d es)) n;
    back_to_birth = λ κ es n. rolled M R Laws laws_kept es (born M.schema κ) n;
  }
