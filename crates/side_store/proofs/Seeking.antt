-- A row sought among ascending rows by halves: what std's method tells is `sought`.
use Rattle.std.proofs.Common.{◌≡◌, ℕ, zero, suc, ◌+◌, ◌<◌, ◌≤◌, true, false, List, [], ◌∷◌, length, get_or, ℤ, ◌≤ℤ◌, ◌<ℤ◌, Result, Ok, Err, sym, refl, ap, ◌∙◌, subst, zero-le, arith}
use Rattle.std.specs.List.Sorted.{IsSearchInRange, IsBinarySearchResult, IsSortedBy}
use Rattle.std.specs.Ordering.{int_cmp, is_lt}
use Rattle.std.proofs.lemmas.Int.{ints}
use Rattle.std.proofs.lemmas.Cmp.{int_ranked, int_cmp_total}
use Rattle.std.proofs.lemmas.List.Sorted.{searchable_from_sorted}
use Rattle.store.specs.declared.Entry.{Entry}
use Rattle.store.specs.Meaning.{rank, holds, sought, ascending, no_entry}
use Rattle.store.proofs.Rows.{Ascends, ascends_from, above_at, rank_more, holds_more, rank_here, holds_here, holds_not, sought_found, sought_missed}

-- a row that has the key is the one sought
found_by : (k : ℤ) (rows : List Entry) (i : ℕ) (d : Entry) → Ascends rows → i < length rows → (get_or rows i d).key ≡ k → (holds k rows ≡ true) × (rank k rows ≡ i)
found_by k [] i d a h e = absurd (omega arith)
found_by k (r ∷ rs) zero d a h e = let le : k ≤ℤ r.key = grind (arith, ints) in (holds_here k r rs e, rank_here k r rs le)
found_by k (r ∷ rs) (suc i) d (p, q) h e =
    let ih = found_by k rs i d q (omega arith) e in
    let lt : r.key <ℤ k = subst (λ x. r.key <ℤ x) e (above_at r.key rs i d p (omega arith)) in
    (holds_more k r rs lt ∙ ih.0, rank_more k r rs lt ∙ ap suc ih.1)

-- there is none between smaller keys and greater ones
missed_by : (k : ℤ) (rows : List Entry) (i : ℕ) (d : Entry) → i ≤ length rows → ((j : ℕ) → j < i → (get_or rows j d).key <ℤ k) → ((j : ℕ) → i ≤ j → j < length rows → k <ℤ (get_or rows j d).key)
    → (holds k rows ≡ false) × (rank k rows ≡ i)
missed_by k [] i d h low high = (refl, omega arith)
missed_by k (r ∷ rs) zero d h low high =
    let lt = high 0 zero-le (omega arith) in
    let le : k ≤ℤ r.key = grind (arith, ints) in (holds_not k r rs lt, rank_here k r rs le)
missed_by k (r ∷ rs) (suc i) d h low high =
    let ih = missed_by k rs i d (omega arith) (λ j l. low (suc j) (omega arith)) (λ j l m. high (suc j) (omega arith) (omega arith)) in
    let lt = low 0 (omega arith) in
    (holds_more k r rs lt ∙ ih.0, rank_more k r rs lt ∙ ap suc ih.1)

-- no row is below the one before it
sorted : (rows : List Entry) → Ascends rows → IsSortedBy (λ x y. is_lt (int_cmp x.key y.key)) rows
sorted [] a i d z h = absurd (omega arith)
sorted (r ∷ rs) (p, q) zero d z h = let lt = above_at r.key rs 0 d p (omega arith) in grind (arith, ints)
sorted (r ∷ rs) (p, q) (suc i) d z h =
    let e : suc (i + 1) ≡ suc i + 1 = omega arith in
    subst (λ m. is_lt (int_cmp (get_or (r ∷ rs) m d).key (get_or rs i d).key) ≡ false) e (sorted rs q i d zero-le (omega arith))

pub sought_by : (k : ℤ) (rows : List Entry) (r : Result ℕ ℕ) → ascending rows ≡ true → IsSearchInRange r (length rows) → IsBinarySearchResult (λ e. int_cmp e.key k) rows r → r ≡ sought k rows
sought_by k rows (Ok i) a h e = sought_found k rows i (found_by k rows i no_entry (ascends_from rows a) h (int_ranked (get_or rows i no_entry).key k _ (sym (e no_entry))))
sought_by k rows (Err i) a h e =
    let parts = e (searchable_from_sorted int_cmp_total (λ x. x.key) rows k (sorted rows (ascends_from rows a))) in
    sought_missed k rows i (missed_by k rows i no_entry h
    (λ j l. int_ranked (get_or rows j no_entry).key k _ (sym (parts.0 j no_entry zero-le l)))
    (λ j l m. int_ranked (get_or rows j no_entry).key k _ (sym (parts.1 j no_entry l m))))
