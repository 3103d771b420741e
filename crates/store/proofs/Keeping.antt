-- For the proofs of a store: what it answers and leaves, by the rows that it keeps for each table.
use Rattle.std.proofs.Common.{◌≡◌, ℕ, ◌<◌, ◌≤◌, Bool, true, false, cond, List, [], length, get_or, ℤ, Some, None, Ok, Err, sym, refl, ap, ◌∙◌, subst, ⊎_elim, zero-le, arith}
use Rattle.std.proofs.Math.Path.{fun_ext}
use Rattle.std.proofs.lemmas.List.Edits.{length-insert, length-remove}
use Rattle.std.proofs.lemmas.Bool.{cond-true, cond-false, cases_eq}
use Rattle.faults.specs.declared.Fault.TheVariants.{KeyTaken, TableFull, NotThere}
use Rattle.store.specs.declared.Entry.{Entry}
use Rattle.store.specs.Meaning.{Lawful, is_table, is_limit, ascending, holds, rank, with_entry, without, updated, no_entry, storing, empty_of, entry_at, count_of, put_answer, put_after, take_answer, take_after}
use Rattle.store.proofs.Rows.{rank_le, rank_lt, ascending_with, ascending_without}
use Rattle.store.proofs.Calls.{is_table_lem, table_from, count_done, entry_done, entry_absent, put_taken, put_full, put_done, take_absent, take_done, updated_by}

-- the rows that a store of limit R keeps
pub record Kept (R : ℕ) (rows : ℕ → List Entry) : Type 0 where
  pub limited : is_limit R ≡ true
  pub ascends : (t : ℕ) → 1 ≤ t → t ≤ 8 → ascending (rows t) ≡ true
  pub within : (t : ℕ) → 1 ≤ t → t ≤ 8 → length (rows t) ≤ R

module _ (R : ℕ) (rows : ℕ → List Entry) where
  pub rows_at : (t : ℕ) → 1 ≤ t → t ≤ 8 → (storing R rows).tables t ≡ rows t
  rows_at t a b = cond-true (is_table t) _ _ (is_table_lem t a b)

  pub lawful : Kept R rows → Lawful (storing R rows)
  lawful kept =
      let each : (t : ℕ) (b : Bool) → is_table t ≡ b → (ascending (cond b (rows t) []) ≡ true) × (length (cond b (rows t) []) ≤ R) =
      λ t b. elim b as (λ v. is_table t ≡ v → (ascending (cond v (rows t) []) ≡ true) × (length (cond v (rows t) []) ≤ R)) [
        | true ↦ (λ e. let h = table_from t e in (kept.ascends t h.0 h.1, kept.within t h.0 h.1))
        | false ↦ (λ _. (refl, zero-le))
      ] in
      record {
        limited = kept.limited;
        ascends = λ t. (each t (is_table t) refl).0;
        within = λ t. (each t (is_table t) refl).1;
        outside = λ t e. cond-false (is_table t) _ _ e;
      }

-- no rows at all
pub storing_none : (R : ℕ) (rows : ℕ → List Entry) → ((t : ℕ) → 1 ≤ t → t ≤ 8 → rows t ≡ []) → storing R rows ≡ empty_of R
storing_none R rows none =
    let each : (t : ℕ) (b : Bool) → is_table t ≡ b → cond b (rows t) [] ≡ [] = λ t b. elim b as (λ v. is_table t ≡ v → cond v (rows t) [] ≡ [])
    [ true ↦ (λ e. let h = table_from t e in none t h.0 h.1) | false ↦ (λ _. refl) ] in
    λ i. record { limit = R; tables = fun_ext (λ t. each t (is_table t) refl) i }

-- No rows are a store's.
pub kept_none : (R : ℕ) (rows : ℕ → List Entry) → is_limit R ≡ true → ((t : ℕ) → 1 ≤ t → t ≤ 8 → rows t ≡ []) → Kept R rows
kept_none R rows l none = record {
  limited = l;
  ascends = λ t a b. ap ascending (none t a b);
  within = λ t a b. subst (λ r. length r ≤ R) (sym (none t a b)) zero-le;
}

-- table t of the store
module _ (R : ℕ) (rows : ℕ → List Entry) (t : ℕ) (from : 1 ≤ t) (to : t ≤ 8) where
  pub counted : (n : ℕ) → n ≡ length (rows t) → Ok n ≡ count_of (storing R rows) t
  counted n e = count_done (storing R rows) t (is_table_lem t from to) n (e ∙ sym (ap length (rows_at R rows t from to)))

  pub entry_there : (p : ℕ) (e : Entry) → p < length (rows t) → e ≡ get_or (rows t) p no_entry → Some e ≡ entry_at (storing R rows) t p
  entry_there p e h q =
      let ra = rows_at R rows t from to in
      entry_done (storing R rows) t (is_table_lem t from to) p e (omega (arith, ap length ra)) (q ∙ ap (λ r. get_or r p no_entry) (sym ra))

  pub entry_none : (p : ℕ) → length (rows t) ≤ p → None ≡ entry_at (storing R rows) t p
  entry_none p h = entry_absent (storing R rows) t (is_table_lem t from to) p (omega (arith, ap length (rows_at R rows t from to)))

  pub taken : (e : Entry) → holds e.key (rows t) ≡ true → (Err (KeyTaken t) ≡ put_answer (storing R rows) t e.key) × (storing R rows ≡ put_after (storing R rows) t e)
  taken e h = put_taken (storing R rows) t (is_table_lem t from to) e (ap (holds e.key) (rows_at R rows t from to) ∙ h)

  pub full : (e : Entry) → holds e.key (rows t) ≡ false → R ≤ length (rows t) → (Err (TableFull t) ≡ put_answer (storing R rows) t e.key) × (storing R rows ≡ put_after (storing R rows) t e)
  full e h f =
      let ra = rows_at R rows t from to in
      put_full (storing R rows) t (is_table_lem t from to) e (ap (holds e.key) ra ∙ h) (omega (arith, ap length ra))

  pub absent : (k : ℤ) → holds k (rows t) ≡ false → (Err (NotThere t) ≡ take_answer (storing R rows) t k) × (storing R rows ≡ take_after (storing R rows) t k)
  absent k h = take_absent (storing R rows) t (is_table_lem t from to) k (ap (holds k) (rows_at R rows t from to) ∙ h)

  -- other rows in table t alone
  module _ (kept : Kept R rows) (rows' : ℕ → List Entry) (there : (v : ℕ) → 1 ≤ v → v ≤ 8 → (v ≡ t → ⊥) → rows' v ≡ rows v) where
    storing_changed : (new : List Entry) → rows' t ≡ new → storing R rows' ≡ updated (storing R rows) t new
    storing_changed new here = updated_by R t (storing R rows).tables (storing R rows').tables new (rows_at R rows' t from to ∙ here)
        (λ v ne. let each : (b : Bool) → is_table v ≡ b → cond b (rows' v) [] ≡ cond b (rows v) [] = λ b. elim b as (λ w. is_table v ≡ w → cond w (rows' v) [] ≡ cond w (rows v) [])
        [ true ↦ (λ e. let h = table_from v e in there v h.0 h.1 ne) | false ↦ (λ _. refl) ] in each (is_table v) refl)

    kept_changed : (new : List Entry) → rows' t ≡ new → ascending new ≡ true → length new ≤ R → Kept R rows'
    kept_changed new here asc len = record {
      limited = kept.limited;
      ascends = λ v a b. ⊎_elim (λ e. ap (λ w. ascending (rows' w)) e ∙ ap ascending here ∙ asc) (λ ne. ap ascending (there v a b ne) ∙ kept.ascends v a b) (cases_eq v t);
      within = λ v a b. ⊎_elim (λ e. subst (λ w. length (rows' w) ≤ R) (sym e) (subst (λ r. length r ≤ R) (sym here) len)) (λ ne. subst (λ r. length r ≤ R) (sym (there v a b ne)) (kept.within v a b)) (cases_eq v t);
    }

    pub put_here : (e : Entry) → holds e.key (rows t) ≡ false → length (rows t) < R → rows' t ≡ with_entry e (rows t)
        → (Ok tt ≡ put_answer (storing R rows) t e.key) × (storing R rows' ≡ put_after (storing R rows) t e) × Kept R rows'
    put_here e h lt here =
        let ra = rows_at R rows t from to in
        let len = length-insert (rows t) (rank e.key (rows t)) e (rank_le e.key (rows t)) in
        let done = put_done (storing R rows) t (is_table_lem t from to) e (ap (holds e.key) ra ∙ h) (omega (arith, ap length ra)) in (
          done.0,
          storing_changed (with_entry e (rows t)) here ∙ ap (λ r. updated (storing R rows) t (with_entry e r)) (sym ra) ∙ done.1,
          kept_changed (with_entry e (rows t)) here (ascending_with e (rows t) (kept.ascends t from to) h) (omega arith),
        )

    pub take_here : (k : ℤ) (row : List ℤ) → holds k (rows t) ≡ true → row ≡ (get_or (rows t) (rank k (rows t)) no_entry).row → rows' t ≡ without k (rows t)
        → (Ok row ≡ take_answer (storing R rows) t k) × (storing R rows' ≡ take_after (storing R rows) t k) × Kept R rows'
    take_here k row h row_is here =
        let ra = rows_at R rows t from to in
        let len = length-remove (rows t) (rank k (rows t)) (rank_lt k (rows t) h) in
        let cap = kept.within t from to in
        let done = take_done (storing R rows) t (is_table_lem t from to) k (ap (holds k) ra ∙ h) in (
          ap Ok (row_is ∙ ap (λ r. (get_or r (rank k r) no_entry).row) (sym ra)) ∙ done.0,
          storing_changed (without k (rows t)) here ∙ ap (λ r. updated (storing R rows) t (without k r)) (sym ra) ∙ done.1,
          kept_changed (without k (rows t)) here (ascending_without k (rows t) (kept.ascends t from to)) (omega arith),
        )
