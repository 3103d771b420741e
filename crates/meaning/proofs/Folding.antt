-- Judging as a fold from the left, and counting the `t` symbols of a list. Assumes nothing.
use Rattle.std.proofs.Common.{◌≡◌, ℕ, suc, ◌+◌, ◌<◌, ◌≤◌, List, [], ◌∷◌, ◌++◌, length, get_or, take, drop, sym, refl, ap, ◌∙◌, arith}
use mathlib.Core.Option.{Option, none, some}
use Rattle.std.proofs.lemmas.List.{at_drop_more, at_drop_all, take-append-drop}
use Rattle.meaning.specs.Values.{bind}
use Rattle.meaning.specs.Schema.{Schema}
use Rattle.meaning.specs.Tables.{Case}
use Rattle.meaning.specs.Records.{Record, def_i, def_l, def_t, fact, table_symbols}
use Rattle.meaning.specs.Truth.{Valuation, judged, placed, false_from, nothing, judgement}
use Rattle.meaning.specs.Folds.{place_on}

module _ (S : Schema) (R : ℕ) (κ : Case) where
  -- the invariant of judging: the first i records are true and give V, and the place of the first that is not lies i further on than in the rest
  abbrev pub Judging : List Record → Valuation → ℕ → Type 0
  Judging rs V i = false_from S R κ nothing rs ≡ place_on i (false_from S R κ V (drop i rs))

  pub judging_start : (rs : List Record) → Judging rs nothing 0
  judging_start rs = sym (go (false_from S R κ nothing rs))
    where
      go : (o : Option ℕ) → place_on 0 o ≡ o
      go none = refl
      go (some k) = ap some (omega arith)

  module _ (rs : List Record) (V : Valuation) (i : ℕ) (inv : Judging rs V i) where
    judging_at : (d : Record) (o : Option Valuation) → i < length rs → judged S R κ V (get_or rs i d) ≡ o → false_from S R κ nothing rs ≡ place_on i (placed S R κ o (λ V. false_from S R κ V (drop (i + 1) rs)))
    judging_at d o lt e = inv ∙ at_drop_more (λ qs. place_on i (false_from S R κ V qs)) rs i d lt ∙ ap (λ o. place_on i (placed S R κ o (λ V. false_from S R κ V (drop (i + 1) rs)))) e

    -- record i + 1 is true, and gives W
    pub judging_next : (d : Record) (W : Valuation) → i < length rs → judged S R κ V (get_or rs i d) ≡ some W → Judging rs W (i + 1)
    judging_next d W lt e = judging_at d (some W) lt e ∙ go (false_from S R κ W (drop (i + 1) rs))
      where
        go : (o : Option ℕ) → place_on i (bind o (λ k. some (suc k))) ≡ place_on (i + 1) o
        go none = refl
        go (some k) = ap some (omega arith)

    -- it is not true, and judging answers its number
    pub judging_stop : (d : Record) → i < length rs → judged S R κ V (get_or rs i d) ≡ none → judgement S R κ rs ≡ i + 1
    judging_stop d lt e = ap (λ o. elim o [ none ↦ 0 | some k ↦ suc k ]) (judging_at d none lt e) ∙ omega arith

    -- there is none left, and judging answers 0
    pub judging_end : length rs ≤ i → judgement S R κ rs ≡ 0
    judging_end h = ap (λ o. elim o [ none ↦ 0 | some k ↦ suc k ]) (inv ∙ at_drop_all (λ qs. place_on i (false_from S R κ V qs)) rs i h)

-- ---- the `t` symbols of a list: its first records and the others

pub tables_both : (xs ys : List Record) → table_symbols (xs ++ ys) ≡ table_symbols xs + table_symbols ys
tables_both [] ys = omega arith
tables_both (def_i n d ∷ xs) ys = tables_both xs ys
tables_both (def_l n d ∷ xs) ys = tables_both xs ys
tables_both (def_t n d ∷ xs) ys = let rec = tables_both xs ys in omega arith
tables_both (fact b f ∷ xs) ys = tables_both xs ys

pub tables_so_far : (rs : List Record) (i : ℕ) → table_symbols rs ≡ table_symbols (take i rs) + table_symbols (drop i rs)
tables_so_far rs i = ap table_symbols (sym (take-append-drop i rs)) ∙ tables_both (take i rs) (drop i rs)
