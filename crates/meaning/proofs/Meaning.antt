-- What a drawn list, or a refusal, means: a predicate on valuations, built record by record. Assumes nothing.
use Rattle.std.proofs.Common.{◌≡◌, ℕ, suc, Bool, ◌↔◌, List, [], ◌∷◌, ℤ, sym, refl, ap, ◌∙◌}
use mathlib.Core.Logic.Iff
use mathlib.Core.Option.{some}
use Rattle.meaning.specs.Schema.{Schema}
use Rattle.meaning.specs.Tables.{Table, Case}
use Rattle.meaning.specs.Records.{IntIs, ListIs, TableIs, Fact, Record, def_i, def_l, def_t, fact, Symbols, next_i, next_l, next_t, new_int, new_list, new_table}
use Rattle.meaning.specs.Conditions.{Drawn, refused, drawn, ◌▸◌, later}
use Rattle.meaning.specs.Truth.{Valuation, put_i, put_l, put_t, int_is, list_is, table_is, holds, AllTrue}
use Rattle.meaning.proofs.Basics.{Below, below_new, below_put, below_less, below_at, some_iff}

-- V and V' agree on the symbols used so far
abbrev pub AgreeTo : (i l t : ℕ) → Valuation → Valuation → Type 0
AgreeTo i l t V V' = record { ints : Below i V.i V'.i; lists : Below l V.l V'.l; tables : Below t V.t V'.t }

-- of the symbols that there are
abbrev pub Agree : Symbols → Valuation → Valuation → Type 0
Agree σ = AgreeTo σ.used.i σ.used.l σ.used.t

pub agree_refl : (σ : Symbols) (V : Valuation) → Agree σ V V
agree_refl σ V = record { ints = λ m h. refl; lists = λ m h. refl; tables = λ m h. refl }

pub agree_int : (σ : Symbols) (V : Valuation) (z : ℤ) → Agree σ V (put_i V (next_i σ) z)
agree_int σ V z = record { ints = below_new σ.used.i V.i z; lists = λ m h. refl; tables = λ m h. refl }

pub agree_list : (σ : Symbols) (V : Valuation) (z : List ℤ) → Agree σ V (put_l V (next_l σ) z)
agree_list σ V z = record { ints = λ m h. refl; lists = below_new σ.used.l V.l z; tables = λ m h. refl }

pub agree_table : (σ : Symbols) (V : Valuation) (z : Table) → Agree σ V (put_t V (next_t σ) z)
agree_table σ V z = record { ints = λ m h. refl; lists = λ m h. refl; tables = below_new σ.used.t V.t z }

-- a value that depends only on the symbols used so far
abbrev pub FixedTo : {A : Type 0} → (i l t : ℕ) → (Valuation → A) → Type 0
FixedTo i l t G = (V V' : Valuation) → AgreeTo i l t V V' → G V ≡ G V'

-- of the symbols that there are
abbrev pub Fixed : {A : Type 0} → Symbols → (Valuation → A) → Type 0
Fixed σ = FixedTo σ.used.i σ.used.l σ.used.t

module _ (S : Schema) (R : ℕ) (κ : Case) where
  -- some valuation that agrees with V so far makes the rest true
  abbrev pub SatTo : (i l t : ℕ) → Valuation → List Record → Type 0
  SatTo i l t V rs = (V' : Valuation) × AgreeTo i l t V V' × AllTrue S R κ V' rs

  -- of the symbols that there are
  abbrev pub Sat : Symbols → Valuation → List Record → Type 0
  Sat σ = SatTo σ.used.i σ.used.l σ.used.t

  -- a definition gives the next symbol its value
  module _ (i l t : ℕ) (V : Valuation) (rs : List Record) where
    pub sat_int : (e : IntIs) → FixedTo i l t (λ V. int_is S R κ V e) → SatTo i l t V (def_i (suc i) e ∷ rs) ↔ ((z : ℤ) × (int_is S R κ V e ≡ some z) × SatTo (suc i) l t (put_i V (suc i) z) rs)
    sat_int e fix = (
      λ s. (s.0.i (suc i), fix V s.0 s.1 ∙ s.2.0, (s.0, record { ints = below_put i V.i s.0.i s.1.ints; lists = s.1.lists; tables = s.1.tables }, s.2.1)),
      λ q. let V' : Valuation = q.2.0 in
          let a : AgreeTo i l t V V' = record { ints = below_less i V.i V'.i q.0 q.2.1.ints; lists = q.2.1.lists; tables = q.2.1.tables } in
          (V', a, (sym (fix V V' a) ∙ q.1 ∙ ap some (sym (below_at i V.i V'.i q.0 q.2.1.ints)), q.2.2)),
    )

    pub sat_list : (e : ListIs) → FixedTo i l t (λ V. list_is S R κ V e) → SatTo i l t V (def_l (suc l) e ∷ rs) ↔ ((z : List ℤ) × (list_is S R κ V e ≡ some z) × SatTo i (suc l) t (put_l V (suc l) z) rs)
    sat_list e fix = (
      λ s. (s.0.l (suc l), fix V s.0 s.1 ∙ s.2.0, (s.0, record { ints = s.1.ints; lists = below_put l V.l s.0.l s.1.lists; tables = s.1.tables }, s.2.1)),
      λ q. let V' : Valuation = q.2.0 in
          let a : AgreeTo i l t V V' = record { ints = q.2.1.ints; lists = below_less l V.l V'.l q.0 q.2.1.lists; tables = q.2.1.tables } in
          (V', a, (sym (fix V V' a) ∙ q.1 ∙ ap some (sym (below_at l V.l V'.l q.0 q.2.1.lists)), q.2.2)),
    )

    pub sat_table : (e : TableIs) → FixedTo i l t (λ V. table_is S R κ V e) → SatTo i l t V (def_t (suc t) e ∷ rs) ↔ ((z : Table) × (table_is S R κ V e ≡ some z) × SatTo i l (suc t) (put_t V (suc t) z) rs)
    sat_table e fix = (
      λ s. (s.0.t (suc t), fix V s.0 s.1 ∙ s.2.0, (s.0, record { ints = s.1.ints; lists = s.1.lists; tables = below_put t V.t s.0.t s.1.tables }, s.2.1)),
      λ q. let V' : Valuation = q.2.0 in
          let a : AgreeTo i l t V V' = record { ints = q.2.1.ints; lists = q.2.1.lists; tables = below_less t V.t V'.t q.0 q.2.1.tables } in
          (V', a, (sym (fix V V' a) ∙ q.1 ∙ ap some (sym (below_at t V.t V'.t q.0 q.2.1.tables)), q.2.2)),
    )

    pub sat_fact : (b : Bool) (f : Fact) → FixedTo i l t (λ V. holds S R κ V f) → SatTo i l t V (fact b f ∷ rs) ↔ ((holds S R κ V f ≡ some b) × SatTo i l t V rs)
    sat_fact b f fix = (
      λ s. (fix V s.0 s.1 ∙ s.2.0, (s.0, s.1, s.2.1)),
      λ q. (q.1.0, q.1.1, (sym (fix V q.1.0 q.1.1) ∙ q.0, q.1.2)),
    )

  -- symbols are defined in order, and each record rests on those defined before it
  abbrev pub Ordered : (i l t : ℕ) → List Record → Type 0
  Ordered i l t [] = Unit {0}
  Ordered i l t (def_i n e ∷ rs) = (n ≡ suc i) × FixedTo i l t (λ V. int_is S R κ V e) × Ordered (suc i) l t rs
  Ordered i l t (def_l n e ∷ rs) = (n ≡ suc l) × FixedTo i l t (λ V. list_is S R κ V e) × Ordered i (suc l) t rs
  Ordered i l t (def_t n e ∷ rs) = (n ≡ suc t) × FixedTo i l t (λ V. table_is S R κ V e) × Ordered i l (suc t) rs
  Ordered i l t (fact b f ∷ rs) = FixedTo i l t (λ V. holds S R κ V f) × Ordered i l t rs

  -- a list is satisfied, from V on, exactly when Q V; a refusal says that Q never holds
  abbrev pub Means : Symbols → Drawn → (Valuation → Type 0) → Type 0
  Means σ (refused n) Q = (V : Valuation) → ¬ Q V
  Means σ (drawn rs) Q = Ordered σ.used.i σ.used.l σ.used.t rs × ((V : Valuation) → Sat σ V rs ↔ Q V)

  pub means_iff : (σ : Symbols) (d : Drawn) (Q Q' : Valuation → Type 0) → ((V : Valuation) → Q V ↔ Q' V) → Means σ d Q → Means σ d Q'
  means_iff σ (refused n) Q Q' f h = λ V q. h V ((f V).1 q)
  means_iff σ (drawn rs) Q Q' f h = (h.0, λ V. (λ s. (f V).0 ((h.1 V).0 s), λ q. (h.1 V).1 ((f V).1 q)))

  pub means_later : (σ : Symbols) (d : Drawn) (Q : Valuation → Type 0) → Means σ d Q → Means σ (later d) Q
  means_later σ (refused n) Q h = h
  means_later σ (drawn rs) Q h = h

  pub means_int : (σ : Symbols) (x : ℕ) (e : IntIs) (d : Drawn) (Q : Valuation → Type 0) → Fixed σ (λ V. int_is S R κ V e) →
      Means (new_int σ x) d Q → Means σ (def_i (next_i σ) e ▸ d) (λ V. (z : ℤ) × (int_is S R κ V e ≡ some z) × Q (put_i V (next_i σ) z))
  means_int σ x e (refused n) Q fix h = λ V q. h (put_i V (next_i σ) q.0) q.2
  means_int σ x e (drawn rs) Q fix h = ((refl, fix, h.0), λ V. Iff.trans (sat_int σ.used.i σ.used.l σ.used.t V rs e fix) (some_iff _ _ _ _ refl (λ z. h.1 (put_i V (next_i σ) z))))

  pub means_list : (σ : Symbols) (x : ℕ) (e : ListIs) (d : Drawn) (Q : Valuation → Type 0) → Fixed σ (λ V. list_is S R κ V e) →
      Means (new_list σ x) d Q → Means σ (def_l (next_l σ) e ▸ d) (λ V. (z : List ℤ) × (list_is S R κ V e ≡ some z) × Q (put_l V (next_l σ) z))
  means_list σ x e (refused n) Q fix h = λ V q. h (put_l V (next_l σ) q.0) q.2
  means_list σ x e (drawn rs) Q fix h = ((refl, fix, h.0), λ V. Iff.trans (sat_list σ.used.i σ.used.l σ.used.t V rs e fix) (some_iff _ _ _ _ refl (λ z. h.1 (put_l V (next_l σ) z))))

  pub means_table : (σ : Symbols) (e : TableIs) (d : Drawn) (Q : Valuation → Type 0) → Fixed σ (λ V. table_is S R κ V e) →
      Means (new_table σ) d Q → Means σ (def_t (next_t σ) e ▸ d) (λ V. (z : Table) × (table_is S R κ V e ≡ some z) × Q (put_t V (next_t σ) z))
  means_table σ e (refused n) Q fix h = λ V q. h (put_t V (next_t σ) q.0) q.2
  means_table σ e (drawn rs) Q fix h = ((refl, fix, h.0), λ V. Iff.trans (sat_table σ.used.i σ.used.l σ.used.t V rs e fix) (some_iff _ _ _ _ refl (λ z. h.1 (put_t V (next_t σ) z))))

  pub means_fact : (σ : Symbols) (b : Bool) (f : Fact) (d : Drawn) (Q : Valuation → Type 0) → Fixed σ (λ V. holds S R κ V f) →
      Means σ d Q → Means σ (fact b f ▸ d) (λ V. (holds S R κ V f ≡ some b) × Q V)
  means_fact σ b f (refused n) Q fix h = λ V q. h V q.1
  means_fact σ b f (drawn rs) Q fix h = ((fix, h.0), λ V. Iff.trans (sat_fact σ.used.i σ.used.l σ.used.t V rs b f fix) (Iff.and (λ x. x, λ x. x) (h.1 V)))
