-- All tables of a store, one after another.
use Rattle.std.proofs.Common.{◌≡◌, ℕ, ◌<◌, Bool, not, true, false, cond, ◌&&◌, ltb, List, length, refl, ap, ⊎_elim, arith}
use Rattle.std.proofs.lemmas.Bool.{cases_Bool, and_parts, and_from}
use Rattle.std.specs.Ordering.{int_eq}
use Rattle.std.specs.Cmp.Lexicographic.{pointwise}
use Rattle.std.proofs.lemmas.Bool.Decides.{Decides-int_eq}
use Rattle.std.proofs.lemmas.Slice.Eq.{slice_eq-Decides}
use Rattle.store.specs.declared.Entry.{Entry}
use Rattle.store.specs.Meaning.{Meaning, Lawful, is_table}

-- m with the rows of f in the tables below n
abbrev pub up_to : ℕ → (ℕ → List Entry) → Meaning → Meaning
up_to n f m = record { limit = m.limit; tables = λ u. cond (is_table u && ltb u n) (f u) (m.tables u) }

-- a number that has rows is a table's
pub table_of_row : (m : Meaning) → Lawful m → (t p : ℕ) → p < length (m.tables t) → is_table t ≡ true
table_of_row m law t p h = ⊎_elim (λ e. e) (λ e. absurd (omega (arith, h, ap length (law.outside t e)))) (cases_Bool (is_table t))

-- ---- two stores

-- what `!=` tells of two entries
pub unequal : (a b : Entry) (r : Bool) → r ≡ not (int_eq a.key b.key && pointwise int_eq a.row b.row) → (r ≡ false → a ≡ b) × (r ≡ true → a ≡ b → ⊥)
unequal a b r e =
    let keys = Decides-int_eq a.key b.key in
    let rows = slice_eq-Decides Decides-int_eq a.row b.row (pointwise int_eq a.row b.row) refl in (
      λ f. let p = and_parts (int_eq a.key b.key) (pointwise int_eq a.row b.row) (grind (arith, e, f)) in
          let k = keys.0 p.0 in let l = rows.0 p.1 in λ i. record { key = k i; row = l i },
      λ t q. let p = and_from (int_eq a.key b.key) (pointwise int_eq a.row b.row) (keys.1 (ap (λ x. x.key) q)) (rows.1 (ap (λ x. x.row) q)) in grind (arith, e, t, p),
    )
