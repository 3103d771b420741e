-- Rows put one after another into an empty table, and taken out one after another.
use Rattle.std.proofs.Common.{◌≡◌, ℕ, zero, suc, ◌+◌, ◌<◌, ◌≤◌, Bool, true, false, cond, eqb, List, [], ◌∷◌, ◌++◌, length, get_or, take, drop, sym, refl, ap, ◌∙◌, arith}
use Rattle.std.proofs.Math.Path.{fun_ext}
use Rattle.std.proofs.lemmas.List.{take_more, take-take, drop_all, length-take-le}
use Rattle.std.proofs.lemmas.Bool.{cond-true, eq-eqb}
use Rattle.store.specs.declared.Entry.{Entry}
use Rattle.store.specs.Meaning.{Meaning, is_table, rank, holds, with_entry, updated, no_entry, ascending, put_after}
use Rattle.store.proofs.Rows.{Ascends, ascends_from, above_at, rank_more, holds_more}
use Rattle.store.proofs.Calls.{put_done}

-- ---- one table changed

updated_twice : (m : Meaning) (t : ℕ) (r s : List Entry) → updated (updated m t r) t s ≡ updated m t s
updated_twice m t r s =
    let two : (b : Bool) (x y z : List Entry) → cond b x (cond b y z) ≡ cond b x z = λ b x y z. elim b as (λ v. cond v x (cond v y z) ≡ cond v x z) [ true ↦ refl | false ↦ refl ] in
    λ i. record { limit = m.limit; tables = fun_ext (λ u. two (eqb u t) s r (m.tables u)) i }

pub updated_at : (m : Meaning) (t : ℕ) (r : List Entry) → (updated m t r).tables t ≡ r
updated_at m t r = cond-true (eqb t t) _ _ (eq-eqb t t refl)

-- ---- a row more

-- the next row goes behind those before it
next_place : (rows : List Entry) (i : ℕ) (d : Entry) → Ascends rows → i < length rows → (rank (get_or rows i d).key (take i rows) ≡ i) × (holds (get_or rows i d).key (take i rows) ≡ false)
next_place [] i d a h = absurd (omega arith)
next_place (r ∷ rs) zero d a h = (refl, refl)
next_place (r ∷ rs) (suc j) d (p, q) h =
    let ih = next_place rs j d q (omega arith) in
    let lt = above_at r.key rs j d p (omega arith) in (
      rank_more (get_or rs j d).key r (take j rs) lt ∙ ap suc ih.0,
      holds_more (get_or rs j d).key r (take j rs) lt ∙ ih.1,
    )

next_inserted : (rows : List Entry) (i : ℕ) (d : Entry) → Ascends rows → i < length rows → with_entry (get_or rows i d) (take i rows) ≡ take (i + 1) rows
next_inserted rows i d a h =
    let n = next_place rows i d a h in
    ap (λ k. take k (take i rows) ++ get_or rows i d ∷ drop k (take i rows)) n.0
    ∙ ap (λ t. t ++ get_or rows i d ∷ drop i (take i rows)) (take-take i i rows (omega arith))
    ∙ ap (λ t. take i rows ++ get_or rows i d ∷ t) (drop_all i (take i rows) (omega (arith, length-take-le i rows (omega arith))))
    ∙ sym (take_more rows i d h)

pub copied_more : (m₀ m : Meaning) (t i : ℕ) (rows : List Entry) (e : Entry) → is_table t ≡ true → ascending rows ≡ true → i < length rows → length rows ≤ m₀.limit
    → m ≡ updated m₀ t (take i rows) → e ≡ get_or rows i no_entry → put_after m t e ≡ updated m₀ t (take (i + 1) rows)
copied_more m₀ m t i rows e it asc h fits is e-is =
    let a = ascends_from rows asc in
    let at : m.tables t ≡ take i rows = ap (λ x. x.tables t) is ∙ updated_at m₀ t (take i rows) in
    let lim : m.limit ≡ m₀.limit = ap (λ x. x.limit) is in
    let done = put_done m t it (get_or rows i no_entry) (ap (holds (get_or rows i no_entry).key) at ∙ (next_place rows i no_entry a h).1)
    (omega (arith, ap length at, length-take-le i rows (omega arith), lim)) in
    ap (put_after m t) e-is
    ∙ sym done.1 ∙ ap (λ r. updated m t (with_entry (get_or rows i no_entry) r)) at ∙ ap (updated m t) (next_inserted rows i no_entry a h)
    ∙ ap (λ x. updated x t (take (i + 1) rows)) is ∙ updated_twice m₀ t (take i rows) (take (i + 1) rows)
