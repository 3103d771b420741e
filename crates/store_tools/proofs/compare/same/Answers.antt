use Rattle.std.proofs.Common.{◌≡◌, ℕ, ◌-◌, get_or, sym, ap, ◌∙◌, subst, ⊎_elim, zero-le, rules, arith, tests}
use Rattle.std.proofs.Math.Path.{fun_ext}
use Rattle.std.proofs.lemmas.Bool.{cases_Bool, MatchBool-at_true, MatchBool-at_false}
use Rattle.std.proofs.lemmas.Iterator.{cases_from_all}
use Rattle.std.proofs.lemmas.List.FromFn.{get_or-range_with_len}
use Rattle.std.specs.List.{AllWithin, range_with_len}
use Rattle.store.specs.Meaning.{Meaning, Lawful, is_table}
use Rattle.store.proofs.Calls.{table_from}
use Rattle.store_tools.proofs.Inclusive.{inclusive_gives}
use Rattle.store_tools.proofs.compare.same.Goals as goal

-- the same in each table from 1 to 8, and in no other
abbrev Alike : Meaning → Meaning → ℕ → Type 0
Alike a b t = (a.tables t ≡ b.tables t) × Lawful a × Lawful b

all_alike : (a b : Meaning) → a.limit ≡ b.limit → AllWithin (Alike a b) (range_with_len 1 8) 0 8 → a ≡ b
all_alike a b e h =
    let first = h 0 0 zero-le (omega arith) in
    let each : (u : ℕ) → a.tables u ≡ b.tables u = λ u. ⊎_elim
    (λ t. let k = table_from u t in (subst (Alike a b) {x = get_or (range_with_len 1 8) (u - 1) 0} {y = u} (omega (arith, k, get_or-range_with_len 1 8 (u - 1) 0 (omega (arith, k)))) (h (u - 1) 0 zero-le (omega (arith, k)))).0)
    (λ t. first.1.outside u t ∙ sym (first.2.outside u t))
    (cases_Bool (is_table u)) in
    λ i. record { limit = e i; tables = fun_ext each i }

pub returns-then-limit : goal.returns-then-limit
returns-then-limit g c =
    let a = g.A.Store.meaning c.args.a.now in
    let b = g.B.Store.meaning c.args.b.now in
    let limits : a.limit ≡ b.limit = sym c.limit.ensures ∙ c.if-limit.true ∙ c.limit-2.ensures in
    let r = cases_from_all _ _ c.all.result (Alike a b) (λ t. a.tables t ≡ b.tables t → ⊥) c.all.ensures.ran
    (inclusive_gives c.new.result 1 8 c.new.ensures.start c.new.ensures.end c.new.ensures.exhausted) (λ x q k. search (rules, tests)) (λ x q k. search (rules, tests)) in (
      λ t. all_alike a b limits (MatchBool-at_true _ _ t r),
      λ e. ⊎_elim (λ t. t) (λ f. let no = MatchBool-at_false _ _ f r in absurd (no.2 0 (ap (λ m. m.tables (get_or (range_with_len 1 8) no.0 0)) e))) (cases_Bool c.all.result),
    )
