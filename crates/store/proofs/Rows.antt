-- Rows in ascending order: where a key stands, and that `with_entry` and `without` keep the order.
use Rattle.std.specs.Cmp.{int_chain}
use Rattle.std.proofs.Common.{◌≡◌, ℕ, zero, suc, ◌+◌, ◌<◌, ◌≤◌, Bool, true, false, cond, not, List, [], ◌∷◌, ◌++◌, length, get_or, take, drop, ℤ, ◌≤ℤ◌, ◌<ℤ◌, Ok, Err, sym, refl, ap, ◌∙◌, suc-le-suc, zero-le, arith}
use Rattle.std.specs.Int.Signed.{lt_z}
use Rattle.std.proofs.lemmas.Int.{ints}
use Rattle.std.proofs.lemmas.List.{drop_more, drop_all}
use Rattle.std.proofs.lemmas.Bool.{and_parts, and_from}
use Rattle.store.specs.declared.Entry.{Entry}
use Rattle.store.specs.Meaning.{rank, holds, with_entry, without, sought, above, ascending}

-- each key is above k
abbrev pub Above : ℤ → List Entry → Type 0
Above k [] = Unit {0}
Above k (e ∷ es) = (k <ℤ e.key) × Above k es

-- the keys ascend
abbrev pub Ascends : List Entry → Type 0
Ascends [] = Unit {0}
Ascends (e ∷ es) = Above e.key es × Ascends es

lt_test : (a b : ℤ) → a <ℤ b → lt_z a b ≡ true
lt_test a b h = grind (arith, ints)

le_test : (a b : ℤ) → b ≤ℤ a → lt_z a b ≡ false
le_test a b h = grind (arith, ints)

test_lt : (a b : ℤ) → lt_z a b ≡ true → a <ℤ b
test_lt a b h = grind (arith, ints)

test_not : (a b : ℤ) → not (lt_z a b) ≡ false → a <ℤ b
test_not a b h = grind (arith, ints)

same_test : (a b : ℤ) → a ≡ b → not (lt_z a b) ≡ true
same_test a b h = grind (arith, ints)

cond_suc_le : (b : Bool) (m n : ℕ) → m ≤ n → cond b (suc m) 0 ≤ suc n
cond_suc_le true m n h = suc-le-suc h
cond_suc_le false m n h = zero-le

pub rank_le : (k : ℤ) (rows : List Entry) → rank k rows ≤ length rows
rank_le k [] = zero-le
rank_le k (e ∷ es) = cond_suc_le (lt_z e.key k) (rank k es) (length es) (rank_le k es)

pub rank_lt : (k : ℤ) (rows : List Entry) → holds k rows ≡ true → rank k rows < length rows
rank_lt k [] h = let z : ◌≡◌ {A = ℕ} 0 1 = cc in omega arith
rank_lt k (e ∷ es) h =
    let P : Bool → Type 0 = λ b. cond b (holds k es) (not (lt_z k e.key)) ≡ true → cond b (suc (rank k es)) 0 < suc (length es) in
    let r : P (lt_z e.key k) = elim (lt_z e.key k) as P [ true ↦ (λ t. suc-le-suc (rank_lt k es t)) | false ↦ (λ _. suc-le-suc zero-le) ] in
    r h

-- ---- order

pub above_trans : (a b : ℤ) (rows : List Entry) → a <ℤ b → Above b rows → Above a rows
above_trans a b [] h t = tt
above_trans a b (e ∷ es) h (p, q) = (int_chain a b e.key h p, above_trans a b es h q)

-- a row behind a key
pub above_at : (a : ℤ) (rows : List Entry) (i : ℕ) (d : Entry) → Above a rows → i < length rows → a <ℤ (get_or rows i d).key
above_at a [] i d h l = absurd (omega arith)
above_at a (r ∷ rs) zero d (p, q) l = p
above_at a (r ∷ rs) (suc i) d (p, q) l = above_at a rs i d q (omega arith)

above_insert : (a : ℤ) (e : Entry) (rows : List Entry) (i : ℕ) → a <ℤ e.key → Above a rows → Above a (take i rows ++ e ∷ drop i rows)
above_insert a e rows zero h t = (h, t)
above_insert a e [] (suc i) h t = (h, tt)
above_insert a e (r ∷ rs) (suc i) h (p, q) = (p, above_insert a e rs i h q)

above_remove : (a : ℤ) (rows : List Entry) (i : ℕ) → Above a rows → Above a (take i rows ++ drop (suc i) rows)
above_remove a [] zero t = tt
above_remove a (r ∷ rs) zero (p, q) = q
above_remove a [] (suc i) t = tt
above_remove a (r ∷ rs) (suc i) (p, q) = (p, above_remove a rs i q)

ascends_remove : (rows : List Entry) (i : ℕ) → Ascends rows → Ascends (take i rows ++ drop (suc i) rows)
ascends_remove [] zero t = tt
ascends_remove (r ∷ rs) zero (p, q) = q
ascends_remove [] (suc i) t = tt
ascends_remove (r ∷ rs) (suc i) (p, q) = (above_remove r.key rs i p, ascends_remove rs i q)

pub ascends_removed : (k : ℤ) (rows : List Entry) → Ascends rows → Ascends (without k rows)
ascends_removed k rows a = ascends_remove rows (rank k rows) a

pub ascends_inserted : (e : Entry) (rows : List Entry) → Ascends rows → holds e.key rows ≡ false → Ascends (with_entry e rows)
ascends_inserted e [] a h = (tt, tt)
ascends_inserted e (r ∷ rs) (p, q) h =
    let P : Bool → Type 0 = λ b. lt_z r.key e.key ≡ b → cond b (holds e.key rs) (not (lt_z e.key r.key)) ≡ false →
    Ascends (take (cond b (suc (rank e.key rs)) 0) (r ∷ rs) ++ e ∷ drop (cond b (suc (rank e.key rs)) 0) (r ∷ rs)) in
    let s : P (lt_z r.key e.key) = elim (lt_z r.key e.key) as P [
      | true ↦ (λ t u. (above_insert r.key e rs (rank e.key rs) (test_lt r.key e.key t) p, ascends_inserted e rs q u))
      | false ↦ (λ t u. let lt = test_not e.key r.key u in ((lt, above_trans e.key r.key rs lt p), (p, q)))
    ] in
    s refl h

-- ---- a row sought from the front

pub rank_more : (k : ℤ) (e : Entry) (es : List Entry) → e.key <ℤ k → rank k (e ∷ es) ≡ suc (rank k es)
rank_more k e es h = ap (λ b. cond b (suc (rank k es)) 0) (lt_test e.key k h)

pub holds_more : (k : ℤ) (e : Entry) (es : List Entry) → e.key <ℤ k → holds k (e ∷ es) ≡ holds k es
holds_more k e es h = ap (λ b. cond b (holds k es) (not (lt_z k e.key))) (lt_test e.key k h)

pub rank_here : (k : ℤ) (e : Entry) (es : List Entry) → k ≤ℤ e.key → rank k (e ∷ es) ≡ 0
rank_here k e es h = ap (λ b. cond b (suc (rank k es)) 0) (le_test e.key k h)

pub holds_here : (k : ℤ) (e : Entry) (es : List Entry) → e.key ≡ k → holds k (e ∷ es) ≡ true
holds_here k e es h =
    let le : k ≤ℤ e.key = grind (arith, ints) in
    ap (λ b. cond b (holds k es) (not (lt_z k e.key))) (le_test e.key k le) ∙ same_test k e.key (sym h)

pub holds_not : (k : ℤ) (e : Entry) (es : List Entry) → k <ℤ e.key → holds k (e ∷ es) ≡ false
holds_not k e es h =
    let le : k ≤ℤ e.key = grind (arith, ints) in
    ap (λ b. cond b (holds k es) (not (lt_z k e.key))) (le_test e.key k le) ∙ ap not (lt_test k e.key h)

-- a search for k holds passed the first i rows
abbrev pub Passed : ℤ → List Entry → ℕ → Type 0
Passed k rows i = (rank k rows ≡ i + rank k (drop i rows)) × (holds k rows ≡ holds k (drop i rows))

module _ (k : ℤ) (rows : List Entry) (i : ℕ) (d : Entry) (lt : i < length rows) (inv : Passed k rows i) where
  pub passed_more : (get_or rows i d).key <ℤ k → Passed k rows (i + 1)
  passed_more h =
      let e = drop_more rows i d lt in
      let p : rank k (drop i rows) ≡ suc (rank k (drop (i + 1) rows)) = ap (rank k) e ∙ rank_more k (get_or rows i d) (drop (i + 1) rows) h in
      let q : holds k (drop i rows) ≡ holds k (drop (i + 1) rows) = ap (holds k) e ∙ holds_more k (get_or rows i d) (drop (i + 1) rows) h in
      (omega arith, inv.1 ∙ q)

  pub found_at : (get_or rows i d).key ≡ k → (holds k rows ≡ true) × (rank k rows ≡ i)
  found_at h =
      let e = drop_more rows i d lt in
      let le : k ≤ℤ (get_or rows i d).key = grind (arith, ints) in
      let p : rank k (drop i rows) ≡ 0 = ap (rank k) e ∙ rank_here k (get_or rows i d) (drop (i + 1) rows) le in
      (inv.1 ∙ ap (holds k) e ∙ holds_here k (get_or rows i d) (drop (i + 1) rows) h, omega arith)

  pub missed_at : k <ℤ (get_or rows i d).key → (holds k rows ≡ false) × (rank k rows ≡ i)
  missed_at h =
      let e = drop_more rows i d lt in
      let le : k ≤ℤ (get_or rows i d).key = grind (arith, ints) in
      let p : rank k (drop i rows) ≡ 0 = ap (rank k) e ∙ rank_here k (get_or rows i d) (drop (i + 1) rows) le in
      (inv.1 ∙ ap (holds k) e ∙ holds_not k (get_or rows i d) (drop (i + 1) rows) h, omega arith)

pub passed_all : (k : ℤ) (rows : List Entry) (i : ℕ) → length rows ≤ i → Passed k rows i → (holds k rows ≡ false) × (rank k rows ≡ i)
passed_all k rows i h inv =
    let e = drop_all i rows h in
    let p : rank k (drop i rows) ≡ 0 = ap (rank k) e in
    (inv.1 ∙ ap (holds k) e, omega arith)

pub sought_found : (k : ℤ) (rows : List Entry) (i : ℕ) → (holds k rows ≡ true) × (rank k rows ≡ i) → Ok i ≡ sought k rows
sought_found k rows i (h, p) = sym (ap (λ b. cond b (Ok (rank k rows)) (Err (rank k rows))) h ∙ ap Ok p)

pub sought_missed : (k : ℤ) (rows : List Entry) (i : ℕ) → (holds k rows ≡ false) × (rank k rows ≡ i) → Err i ≡ sought k rows
sought_missed k rows i (h, p) = sym (ap (λ b. cond b (Ok (rank k rows)) (Err (rank k rows))) h ∙ ap Err p)

-- and back: what `sought` says
pub found_from : (k : ℤ) (rows : List Entry) (i : ℕ) → Ok i ≡ sought k rows → (holds k rows ≡ true) × (rank k rows ≡ i)
found_from k rows i e =
    let P : Bool → Type 0 = λ b. Ok i ≡ cond b (Ok (rank k rows)) (Err (rank k rows)) → (b ≡ true) × (rank k rows ≡ i) in
    let r : P (holds k rows) = elim (holds k rows) as P [ true ↦ (λ x. (refl, cc)) | false ↦ (λ x. let z : ◌≡◌ {A = ℕ} 0 1 = cc in absurd (omega arith)) ] in
    r e

pub missed_from : (k : ℤ) (rows : List Entry) (i : ℕ) → Err i ≡ sought k rows → (holds k rows ≡ false) × (rank k rows ≡ i)
missed_from k rows i e =
    let P : Bool → Type 0 = λ b. Err i ≡ cond b (Ok (rank k rows)) (Err (rank k rows)) → (b ≡ false) × (rank k rows ≡ i) in
    let r : P (holds k rows) = elim (holds k rows) as P [ true ↦ (λ x. let z : ◌≡◌ {A = ℕ} 0 1 = cc in absurd (omega arith)) | false ↦ (λ x. (refl, cc)) ] in
    r e

above_from : (k : ℤ) (rows : List Entry) → above k rows ≡ true → Above k rows
above_from k [] h = tt
above_from k (e ∷ es) h = let p = and_parts (lt_z k e.key) (above k es) h in (test_lt k e.key p.0, above_from k es p.1)

above_to : (k : ℤ) (rows : List Entry) → Above k rows → above k rows ≡ true
above_to k [] h = refl
above_to k (e ∷ es) (p, q) = and_from (lt_z k e.key) (above k es) (lt_test k e.key p) (above_to k es q)

pub ascends_from : (rows : List Entry) → ascending rows ≡ true → Ascends rows
ascends_from [] h = tt
ascends_from (e ∷ es) h = let p = and_parts (above e.key es) (ascending es) h in (above_from e.key es p.0, ascends_from es p.1)

pub ascends_to : (rows : List Entry) → Ascends rows → ascending rows ≡ true
ascends_to [] h = refl
ascends_to (e ∷ es) (p, q) = and_from (above e.key es) (ascending es) (above_to e.key es p) (ascends_to es q)

-- the order, as the contracts say it, after a put and after a take
pub ascending_with : (e : Entry) (rows : List Entry) → ascending rows ≡ true → holds e.key rows ≡ false → ascending (with_entry e rows) ≡ true
ascending_with e rows a h = ascends_to (with_entry e rows) (ascends_inserted e rows (ascends_from rows a) h)

pub ascending_without : (k : ℤ) (rows : List Entry) → ascending rows ≡ true → ascending (without k rows) ≡ true
ascending_without k rows a = ascends_to (without k rows) (ascends_removed k rows (ascends_from rows a))
