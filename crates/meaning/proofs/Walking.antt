-- The list drawn for a path means that the run follows it. Assumes nothing.
use Rattle.std.proofs.Common.{◌≡◌, ℕ, suc, false, List, [], ◌∷◌, refl, ap}
use mathlib.Core.Logic.Iff
use mathlib.Core.Option.{Option, none, some}
use Rattle.meaning.specs.Values.{numbered, rest}
use Rattle.meaning.specs.Syntax.{Condition, Write, Silent, silent, Block, stop, ◌⨾◌, assign, empty, tail, read, load, select, next, write, commit, rollback, branch, while, Mark, branched, turned, fetched, wrote}
use Rattle.meaning.specs.Evaluation.{value, truth}
use Rattle.meaning.specs.Schema.{Schema}
use Rattle.meaning.specs.Tables.{Table, Case}
use Rattle.meaning.specs.Writes.{kept}
use Rattle.meaning.specs.State.{State, env, set_int, set_list, set_cursor, read_one, load_one}
use Rattle.meaning.specs.Run.{effect, goes}
use Rattle.meaning.specs.Records.{is, input, nil_list, tail_of, loaded, keep, Symbols, next_t, exp_of, cond_of, new_table, stands, before, read_s, load_s, commit_s, rollback_s}
use Rattle.meaning.specs.Conditions.{◌▸▸◌, silent_records, silent_symbols, Drawn, later, over, Marking, walk, unmarked, marked, draw}
use Rattle.meaning.specs.Truth.{put_t}
use Rattle.meaning.proofs.Basics.{made_iff, put_same, some_iff, subst_iff, subst₂-iff, one_iff}
use Rattle.meaning.proofs.Meaning.{Means, means_iff, means_later, agree_refl}
use Rattle.meaning.proofs.Moving.{From, from_step, by_need, branch_begins, while_begins, next_begins, write_begins, end_marks_none}
use Rattle.meaning.proofs.States.{state, exp_is, cnd_is, state_stands}
use Rattle.meaning.proofs.Symbols.{Stable, stable_silent, stable_read, stable_load, table_put}
use Rattle.meaning.proofs.Defining.{sim_int, sim_list, sim_table}
use Rattle.meaning.proofs.Marking.{branch_means, while_means, fetch_means, write_means}

module _ (S : Schema) (R : ℕ) (κ : Case) where
  -- what is asked at a mark, or at the end of the path
  record Good (μ : Marking) (p : List Mark) : Type 0 where
    branches : (c : Condition ℕ ℕ ℕ) (x y k : Block) (σ : Symbols) → Stable σ → Means S R κ σ (μ.at_branch c x y k σ) (λ V. From S R κ (branch c x y ⨾ k) (state σ V) p)
    whiles : (c : Condition ℕ ℕ ℕ) (x k : Block) (σ : Symbols) → Stable σ → Means S R κ σ (μ.at_while c x k σ) (λ V. From S R κ (while c x ⨾ k) (state σ V) p)
    nexts : (v : ℕ) (h : Option ℕ) (k : Block) (σ : Symbols) → Stable σ → Means S R κ σ (μ.at_next v h k σ) (λ V. From S R κ (next v h ⨾ k) (state σ V) p)
    writes : (w : Write ℕ ℕ ℕ) (h : Option ℕ) (k : Block) (σ : Symbols) → Stable σ → Means S R κ σ (μ.at_write w h k σ) (λ V. From S R κ (write w h ⨾ k) (state σ V) p)
    end : (σ : Symbols) → Means S R κ σ μ.at_stop (λ V. From S R κ stop (state σ V) p)

  -- the record of a silent statement says what the statement does
  silent_means : (x : Silent) (σ : Symbols) → Stable σ → (d : Drawn) (Q : State → Type 0) → Means S R κ (silent_symbols σ x) d (λ V. Q (state (silent_symbols σ x) V)) →
      Means S R κ σ (silent_records σ x ▸▸ d) (λ V. (s : State) × (effect κ x (state σ V) ≡ some s) × Q s)
  silent_means (assign x e) σ st d Q h =
      means_iff S R κ σ _ _ _ (λ V. Iff.symm (made_iff (value (env (state σ V)) none e) (set_int (state σ V) x) Q))
      (sim_int S R κ σ st x (is (exp_of σ e)) (λ s. value (env s) none e) (λ V. exp_is σ V none e) d Q h)
  silent_means (empty x) σ st d Q h =
      means_iff S R κ σ _ _ _ (λ V. Iff.trans (one_iff [] (λ l. Q (set_list (state σ V) x l))) (Iff.symm (one_iff (set_list (state σ V) x []) Q)))
      (sim_list S R κ σ st x nil_list (λ s. some []) (λ V. refl) d Q h)
  silent_means (tail x y) σ st d Q h =
      means_iff S R κ σ _ _ _ (λ V. Iff.symm (made_iff (rest ((state σ V).vars.lists y)) (set_list (state σ V) x) Q))
      (sim_list S R κ σ st x (tail_of (σ.held.vars.lists y)) (λ s. rest (s.vars.lists y)) (λ V. refl) d Q h)
  silent_means (read x) σ st d Q h =
      means_iff S R κ σ _ _ _ (λ V. Iff.symm (made_iff (numbered κ.reads (suc σ.held.taken.reads)) (set_int (read_one (state σ V)) x) Q))
      (sim_int S R κ (read_s σ) (stable_read σ st) x (input (suc σ.held.taken.reads)) (λ s. numbered κ.reads (suc σ.held.taken.reads)) (λ V. refl) d Q h)
  silent_means (load x) σ st d Q h =
      means_iff S R κ σ _ _ _ (λ V. Iff.symm (made_iff (numbered κ.lists (suc σ.held.taken.loads)) (set_list (load_one (state σ V)) x) Q))
      (sim_list S R κ (load_s σ) (stable_load σ st) x (loaded (suc σ.held.taken.loads)) (λ s. numbered κ.lists (suc σ.held.taken.loads)) (λ V. refl) d Q h)
  silent_means (select v t c) σ st d Q h =
      let G : State → Option Table = λ s. kept (λ r. truth (env s) (some r) c) (s.tables.now t) in
      let at : State → Table → State = λ s X. set_cursor s v (record { rows = X; on = false }) in
      means_iff S R κ σ _ _ _
      (λ V. Iff.trans (some_iff (G (state σ V)) (G (state σ V)) _ (λ X. Q (at (state σ V) X)) refl
      (λ X. let V' = put_t V (next_t σ) X in
      Iff.trans (subst_iff Q (state_stands (new_table σ) V' v (before (next_t σ))))
      (subst₂-iff (λ s Y. Q (at s Y)) (table_put σ st V X) (put_same V.t (next_t σ) X))))
      (Iff.symm (made_iff (G (state σ V)) (at (state σ V)) Q)))
      (sim_table S R κ σ st (keep (σ.held.tables.now t) (cond_of σ c)) G (λ V. ap (λ f. kept f ((state σ V).tables.now t)) (λ i r. cnd_is σ V (some r) c i)) d (λ V. Q (state (stands (new_table σ) v (before (next_t σ))) V)) h)
  silent_means commit σ st d Q h = means_iff S R κ σ _ _ _ (λ V. Iff.symm (one_iff (state (commit_s σ) V) Q)) h
  silent_means rollback σ st d Q h = means_iff S R κ σ _ _ _ (λ V. Iff.symm (one_iff (state (rollback_s σ) V) Q)) h

  module _ (μ : Marking) (p : List Mark) (g : Good μ p) where
    walk_means : (k : Block) (σ : Symbols) → Stable σ → Means S R κ σ (walk μ k σ) (λ V. From S R κ k (state σ V) p)
    walk_means stop σ st = g.end σ
    walk_means (silent x ⨾ k) σ st =
        means_iff S R κ σ _ _ _
        (λ V. Iff.trans (by_need S R κ (effect κ x (state σ V)) (goes none k) p) (from_step S R κ (silent x ⨾ k) (state σ V) p))
        (silent_means x σ st (walk μ k (silent_symbols σ x)) (λ s. From S R κ k s p) (walk_means k (silent_symbols σ x) (stable_silent x σ st)))
    walk_means (next v h ⨾ k) σ st = g.nexts v h k σ st
    walk_means (write w h ⨾ k) σ st = g.writes w h k σ st
    walk_means (branch c x y ⨾ k) σ st = g.branches c x y k σ st
    walk_means (while c x ⨾ k) σ st = g.whiles c x k σ st

  good_end : Good unmarked []
  good_end = record {
    branches = λ c x y k σ st V. branch_begins S R κ c x y k (state σ V) [];
    whiles = λ c x k σ st V. while_begins S R κ c x k (state σ V) [];
    nexts = λ v h k σ st V. next_begins S R κ v h k (state σ V) [];
    writes = λ w h k σ st V. write_begins S R κ w h k (state σ V) [];
    end = λ σ. (tt, λ V. (λ q. (1, refl), λ b. (V, agree_refl σ V, tt)));
  }

  module _ (p : List Mark) (more : Block → Symbols → Drawn) (ih : (k : Block) (σ : Symbols) → Stable σ → Means S R κ σ (more k σ) (λ V. From S R κ k (state σ V) p)) where
    good_mark : (m : Mark) → Good (marked S m more (later (over p))) (m ∷ p)
    good_mark (branched b) = record {
      branches = branch_means S R κ p more ih b;
      whiles = λ c x k σ st V. while_begins S R κ c x k (state σ V) (branched b ∷ p);
      nexts = λ v h k σ st V. next_begins S R κ v h k (state σ V) (branched b ∷ p);
      writes = λ w h k σ st V. write_begins S R κ w h k (state σ V) (branched b ∷ p);
      end = λ σ V. end_marks_none S R κ (state σ V) (branched b) p;
    }
    good_mark (turned b) = record {
      branches = λ c x y k σ st V. branch_begins S R κ c x y k (state σ V) (turned b ∷ p);
      whiles = while_means S R κ p more ih b;
      nexts = λ v h k σ st V. next_begins S R κ v h k (state σ V) (turned b ∷ p);
      writes = λ w h k σ st V. write_begins S R κ w h k (state σ V) (turned b ∷ p);
      end = λ σ V. end_marks_none S R κ (state σ V) (turned b) p;
    }
    good_mark (fetched b) = record {
      branches = λ c x y k σ st V. branch_begins S R κ c x y k (state σ V) (fetched b ∷ p);
      whiles = λ c x k σ st V. while_begins S R κ c x k (state σ V) (fetched b ∷ p);
      nexts = λ v h k σ st. fetch_means S R κ p more ih h v k σ st b;
      writes = λ w h k σ st V. write_begins S R κ w h k (state σ V) (fetched b ∷ p);
      end = λ σ V. end_marks_none S R κ (state σ V) (fetched b) p;
    }
    good_mark (wrote o) = record {
      branches = λ c x y k σ st V. branch_begins S R κ c x y k (state σ V) (wrote o ∷ p);
      whiles = λ c x k σ st V. while_begins S R κ c x k (state σ V) (wrote o ∷ p);
      nexts = λ v h k σ st V. next_begins S R κ v h k (state σ V) (wrote o ∷ p);
      writes = λ w h k σ st. write_means S R κ p more ih w h k o σ st;
      end = λ σ V. end_marks_none S R κ (state σ V) (wrote o) p;
    }

  pub draw_means : (p : List Mark) (k : Block) (σ : Symbols) → Stable σ → Means S R κ σ (draw S p k σ) (λ V. From S R κ k (state σ V) p)
  draw_means [] = walk_means unmarked [] good_end
  draw_means (m ∷ p) =
      let ih : (k : Block) (σ : Symbols) → Stable σ → Means S R κ σ (later (draw S p k σ)) (λ V. From S R κ k (state σ V) p) = λ k σ st. means_later S R κ σ (draw S p k σ) _ (draw_means p k σ st) in
      walk_means (marked S m (λ k σ. later (draw S p k σ)) (later (over p))) (m ∷ p) (good_mark p (λ k σ. later (draw S p k σ)) ih m)
