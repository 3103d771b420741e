-- What each call answers, and what it leaves, case by case: for the proofs of a store, and of its callers.
use Rattle.std.proofs.Common.{◌≡◌, ℕ, ◌<◌, ◌≤◌, Bool, true, false, cond, eqb, leb, List, length, get_or, ℤ, is_ok, Some, None, Ok, Err, Result, sym, refl, ap, ◌∙◌, ⊎_elim, arith}
use Rattle.std.proofs.Math.Path.{fun_ext}
use Rattle.std.proofs.lemmas.Bool.{cond-true, cond-false, and_from, and_right, and_parts, le-leb, leb-true, lt-ltb, le-ltb, eq-eqb, ne_eqb, cases_eq}
use Rattle.faults.specs.declared.Fault.{Fault}
use Rattle.faults.specs.declared.Fault.TheVariants.{KeyTaken, TableFull, NotThere}
use Rattle.store.specs.declared.Entry.{Entry}
use Rattle.store.specs.Meaning.{Meaning, is_table, is_limit, holds, rank, with_entry, without, updated, no_entry, unless14, is_position, entry_at, key_at, count_of, put_answer, put_after, take_answer, take_after}

pub is_table_lem : (t : ℕ) → 1 ≤ t → t ≤ 8 → is_table t ≡ true
is_table_lem t a b = and_from (leb 1 t) (leb t 8) (le-leb 1 t a) (le-leb t 8 b)

pub table_from : (t : ℕ) → is_table t ≡ true → (1 ≤ t) × (t ≤ 8)
table_from t e = let h = and_parts (leb 1 t) (leb t 8) e in (leb-true 1 t h.0, leb-true t 8 h.1)

pub limit_from : (R : ℕ) → is_limit R ≡ true → (1 ≤ R) × (R ≤ 64)
limit_from R e = let h = and_parts (leb 1 R) (leb R 64) e in (leb-true 1 R h.0, leb-true R 64 h.1)

module _ (m : Meaning) (t : ℕ) (it : is_table t ≡ true) where
  pub count_done : (n : ℕ) → n ≡ length (m.tables t) → Ok n ≡ count_of m t
  count_done n e = ap Ok e ∙ sym (cond-true _ _ _ it)

  pub is_position_lem : (p : ℕ) → p < length (m.tables t) → is_position m t p ≡ true
  is_position_lem p h = and_from _ _ it (lt-ltb _ _ h)

  pub no_position : (p : ℕ) → length (m.tables t) ≤ p → is_position m t p ≡ false
  no_position p h = and_right (is_table t) _ (le-ltb _ _ h)

  pub entry_done : (p : ℕ) (e : Entry) → p < length (m.tables t) → e ≡ get_or (m.tables t) p no_entry → Some e ≡ entry_at m t p
  entry_done p e h q = ap Some q ∙ sym (cond-true _ _ _ (is_position_lem p h))

  pub entry_absent : (p : ℕ) → length (m.tables t) ≤ p → None ≡ entry_at m t p
  entry_absent p h = sym (cond-false _ _ _ (no_position p h))

  module _ (e : Entry) where
    left : {x : Fault} → Err x ≡ put_answer m t e.key → m ≡ put_after m t e
    left r = ap (λ a. cond (is_ok a) (updated m t (with_entry e (m.tables t))) m) r

    pub put_taken : holds e.key (m.tables t) ≡ true → (Err (KeyTaken t) ≡ put_answer m t e.key) × (m ≡ put_after m t e)
    put_taken h = let r : Err (KeyTaken t) ≡ put_answer m t e.key = sym (cond-true _ _ _ it ∙ cond-true _ _ _ h) in (r, left r)

    pub put_full : holds e.key (m.tables t) ≡ false → m.limit ≤ length (m.tables t) → (Err (TableFull t) ≡ put_answer m t e.key) × (m ≡ put_after m t e)
    put_full h f = let r : Err (TableFull t) ≡ put_answer m t e.key = sym (cond-true _ _ _ it ∙ cond-false _ _ _ h ∙ cond-false _ _ _ (le-ltb _ _ f)) in (r, left r)

    pub put_done : holds e.key (m.tables t) ≡ false → length (m.tables t) < m.limit → (Ok tt ≡ put_answer m t e.key) × (updated m t (with_entry e (m.tables t)) ≡ put_after m t e)
    put_done h f =
        let r : Ok tt ≡ put_answer m t e.key = sym (cond-true _ _ _ it ∙ cond-false _ _ _ h ∙ cond-true _ _ _ (lt-ltb _ _ f)) in
        (r, ap (λ a. cond (is_ok a) (updated m t (with_entry e (m.tables t))) m) r)

  pub take_absent : (k : ℤ) → holds k (m.tables t) ≡ false → (Err (NotThere t) ≡ take_answer m t k) × (m ≡ take_after m t k)
  take_absent k h =
      let r : Err (NotThere t) ≡ take_answer m t k = sym (cond-false _ _ _ (and_right (is_table t) _ h)) in
      (r, ap (λ a. cond (is_ok a) (updated m t (without k (m.tables t))) m) r)

  pub take_done : (k : ℤ) → holds k (m.tables t) ≡ true
      → (Ok (get_or (m.tables t) (rank k (m.tables t)) no_entry).row ≡ take_answer m t k) × (updated m t (without k (m.tables t)) ≡ take_after m t k)
  take_done k h =
      let r : Ok (get_or (m.tables t) (rank k (m.tables t)) no_entry).row ≡ take_answer m t k = sym (cond-true _ _ _ (and_from _ _ it h)) in
      (r, ap (λ a. cond (is_ok a) (updated m t (without k (m.tables t))) m) r)

-- a meaning that differs in table t alone
pub updated_by : (R t : ℕ) (f g : ℕ → List Entry) (rows : List Entry) → g t ≡ rows → ((v : ℕ) → (v ≡ t → ⊥) → g v ≡ f v) → ◌≡◌ {A = Meaning} (record { limit = R; tables = g }) (updated (record { limit = R; tables = f }) t rows)
updated_by R t f g rows here there =
    let each : (v : ℕ) → g v ≡ cond (eqb v t) rows (f v) = λ v. ⊎_elim
    (λ e. ap g e ∙ here ∙ sym (cond-true _ _ _ (eq-eqb v t e)))
    (λ ne. there v ne ∙ sym (cond-false _ _ _ (ne_eqb v t ne)))
    (cases_eq v t) in
    λ i. record { limit = R; tables = fun_ext each i }

-- ---- for a caller: what an answer says

ok_from : {X : Type 0} (b : Bool) (x y : X) (t : ℕ) → ◌≡◌ {A = Result X Fault} (Ok x) (unless14 b y t) → (b ≡ true) × (x ≡ y)
ok_from {X} b x y t =
    let P : Bool → Type 0 = λ v. ◌≡◌ {A = Result X Fault} (Ok x) (unless14 v y t) → (v ≡ true) × (x ≡ y) in
    let f : P b = elim b as P [ true ↦ (λ e. (refl, cc)) | false ↦ (λ e. let z : ◌≡◌ {A = ℕ} 0 1 = cc in absurd (omega arith)) ] in f

pub count_from : (m : Meaning) (t n : ℕ) → Ok n ≡ count_of m t → (is_table t ≡ true) × (n ≡ length (m.tables t))
count_from m t n e = ok_from (is_table t) n (length (m.tables t)) t e

pub key_from : (m : Meaning) (t p : ℕ) (k : ℤ) → Ok k ≡ key_at m t p → k ≡ (get_or (m.tables t) p no_entry).key
key_from m t p k e = (ok_from (is_position m t p) k _ t e).1
