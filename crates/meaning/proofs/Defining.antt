-- What a definition means of the state. Assumes nothing.
use Rattle.std.proofs.Common.{◌≡◌, ℕ, Bool, List, ℤ, sym, ap, ◌∙◌}
use mathlib.Core.Option.{Option, some}
use Rattle.meaning.specs.Schema.{Schema}
use Rattle.meaning.specs.Tables.{Table, Case}
use Rattle.meaning.specs.State.{State, set_int, set_list}
use Rattle.meaning.specs.Records.{IntIs, ListIs, TableIs, Fact, def_i, def_l, def_t, fact, Symbols, next_i, next_l, next_t, new_int, new_list, new_table}
use Rattle.meaning.specs.Conditions.{Drawn, ◌▸◌}
use Rattle.meaning.specs.Truth.{Valuation, put_t, int_is, list_is, table_is, holds}
use Rattle.meaning.proofs.Meaning.{Means, means_iff, means_int, means_list, means_table, means_fact, Fixed}
use Rattle.meaning.proofs.Basics.{some_iff, subst_iff}
use Rattle.meaning.proofs.States.{state}
use Rattle.meaning.proofs.Symbols.{Stable, int_put, list_put}

pub by_state : {A : Type 0} (σ : Symbols) → Stable σ → (F : Valuation → A) (G : State → A) → ((V : Valuation) → F V ≡ G (state σ V)) → Fixed σ F
by_state σ st F G e V V' a = e V ∙ ap G (st V V' a) ∙ sym (e V')

module _ (S : Schema) (R : ℕ) (κ : Case) (σ : Symbols) (st : Stable σ) where
  pub sim_int : (x : ℕ) (e : IntIs) (G : State → Option ℤ) → ((V : Valuation) → int_is S R κ V e ≡ G (state σ V)) → (d : Drawn) (Q : State → Type 0) →
      Means S R κ (new_int σ x) d (λ V. Q (state (new_int σ x) V)) → Means S R κ σ (def_i (next_i σ) e ▸ d) (λ V. (z : ℤ) × (G (state σ V) ≡ some z) × Q (set_int (state σ V) x z))
  sim_int x e G g d Q h =
      means_iff S R κ σ (def_i (next_i σ) e ▸ d) _ _ (λ V. some_iff _ _ _ _ (g V) (λ z. subst_iff Q (int_put σ st V x z)))
      (means_int S R κ σ x e d (λ V. Q (state (new_int σ x) V)) (by_state σ st _ G g) h)

  pub sim_list : (x : ℕ) (e : ListIs) (G : State → Option (List ℤ)) → ((V : Valuation) → list_is S R κ V e ≡ G (state σ V)) → (d : Drawn) (Q : State → Type 0) →
      Means S R κ (new_list σ x) d (λ V. Q (state (new_list σ x) V)) → Means S R κ σ (def_l (next_l σ) e ▸ d) (λ V. (z : List ℤ) × (G (state σ V) ≡ some z) × Q (set_list (state σ V) x z))
  sim_list x e G g d Q h =
      means_iff S R κ σ (def_l (next_l σ) e ▸ d) _ _ (λ V. some_iff _ _ _ _ (g V) (λ z. subst_iff Q (list_put σ st V x z)))
      (means_list S R κ σ x e d (λ V. Q (state (new_list σ x) V)) (by_state σ st _ G g) h)

  pub sim_table : (e : TableIs) (G : State → Option Table) → ((V : Valuation) → table_is S R κ V e ≡ G (state σ V)) → (d : Drawn) (Q : Valuation → Type 0) →
      Means S R κ (new_table σ) d Q → Means S R κ σ (def_t (next_t σ) e ▸ d) (λ V. (T : Table) × (G (state σ V) ≡ some T) × Q (put_t V (next_t σ) T))
  sim_table e G g d Q h =
      means_iff S R κ σ (def_t (next_t σ) e ▸ d) _ _ (λ V. some_iff _ _ _ _ (g V) (λ z. (λ q. q, λ q. q)))
      (means_table S R κ σ e d Q (by_state σ st _ G g) h)

pub sim_fact : (S : Schema) (R : ℕ) (κ : Case) (σ : Symbols) (b : Bool) (f : Fact) (G : Valuation → Option Bool) → ((V : Valuation) → holds S R κ V f ≡ G V) → Fixed σ G → (d : Drawn) (Q : Valuation → Type 0) →
    Means S R κ σ d Q → Means S R κ σ (fact b f ▸ d) (λ V. (G V ≡ some b) × Q V)
sim_fact S R κ σ b f G g fix d Q h =
    means_iff S R κ σ (fact b f ▸ d) _ _ (λ V. (λ q. (sym (g V) ∙ q.0, q.1), λ q. (g V ∙ q.0, q.1)))
    (means_fact S R κ σ b f d Q (λ V V' a. g V ∙ fix V V' a ∙ sym (g V')) h)
