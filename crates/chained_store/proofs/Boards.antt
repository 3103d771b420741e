-- The tables of a store with chained records, before and after a change of one.
use Rattle.std.proofs.Common.{◌≡◌, ℕ, ◌+◌, ◌-◌, ◌*◌, ◌<◌, ◌≤◌, Bool, true, false, cond, eqb, List, map, length, get_or, ℤ, Ok, Err, sym, refl, ap, ◌∙◌, subst, ⊎_elim, arith, w32, SFits, to_z, of_z}
use Rattle.std.proofs.lemmas.List.{length-map, get_or-map}
use Rattle.std.proofs.lemmas.Int.{to_z-of_z}
use Rattle.std.proofs.lemmas.Bool.{cases_eq, eq-eqb, ne_eqb, cond-true, cond-false}
use Rattle.chain.specs.declared.cells.Cell.{Cell}
use Rattle.chain.specs.Lists.{Sound, sum_to, pointers, nodes_of, free, prior}
use Rattle.chain.proofs.Links.{sum_less}
use Rattle.chain.proofs.Slots.{length_pointers}
use Rattle.store.specs.declared.Entry.{Entry}
use Rattle.store.specs.Meaning.{holds, rank, no_entry}
use Rattle.store.proofs.Keeping.{Kept}
use Rattle.chained_store.specs.declared.tables.ChainedStore.{ChainedStore}
use Rattle.chained_store.specs.Tables.{rows_of, spot}

-- what a store keeps of its limit, heads and cells
pub record Held (limit : ℕ) (heads : List ℕ) (cells : List (Cell Entry)) : Type 0 where
  pub sound : Sound heads cells
  pub size : length cells ≡ 8 * limit
  pub width : length heads ≡ 9
  pub kept : Kept limit (rows_of heads cells)

pub held : (s : ChainedStore) → Held s.limit s.raw.heads s.raw.cells.now
held s = record {
  sound = s.raw.sound;
  size = s.size;
  width = s.raw.width;
  kept = record { limited = s.limited; ascends = s.ascends; within = s.within };
}

pub length_rows : (heads : List ℕ) (cells : List (Cell Entry)) (t : ℕ) → length (rows_of heads cells t) ≡ length (nodes_of heads cells t)
length_rows heads cells t = length-map (nodes_of heads cells t) _

pub row_at : (heads : List ℕ) (cells : List (Cell Entry)) (t p : ℕ) → p < length (nodes_of heads cells t) → get_or (rows_of heads cells t) p no_entry ≡ get_or (map (λ x. x.value) cells) (get_or (nodes_of heads cells t) p 0 - 1) no_entry
row_at heads cells t p lt = get_or-map (λ i. get_or (map (λ x. x.value) cells) (i - 1) no_entry) (nodes_of heads cells t) p 0 no_entry lt

-- a table with room leaves a free record
pub room : (R : ℕ) (heads : List ℕ) (cells : List (Cell Entry)) → Held R heads cells → (t : ℕ) → 1 ≤ t → t ≤ 8 → length (rows_of heads cells t) < R → 0 < free heads cells
room R heads cells held t lo hi lt =
    let more : ℕ → ℕ = λ c. cond (eqb c t) (length (nodes_of heads cells c) + 1) (length (nodes_of heads cells c)) in
    let one = sum_less 9 t (λ c. cond (eqb c t) (length (nodes_of heads cells c) + 1) (length (nodes_of heads cells c))) (λ c. length (nodes_of heads cells c)) (omega arith)
    (sym (cond-true (eqb t t) _ _ (eq-eqb t t refl))) (λ c ne. sym (cond-false (eqb c t) _ _ (ne_eqb c t ne))) in
    let each : (c : ℕ) → 1 ≤ c → c ≤ 8 → cond (eqb c t) (length (nodes_of heads cells c) + 1) (length (nodes_of heads cells c)) ≤ R = λ c a b. ⊎_elim
    (λ e. subst (λ n. n ≤ R) (sym (cond-true (eqb c t) _ _ (eq-eqb c t e))) (subst (λ i. length (nodes_of heads cells i) + 1 ≤ R) (sym e) (omega (arith, length_rows heads cells t))))
    (λ ne. subst (λ n. n ≤ R) (sym (cond-false (eqb c t) _ _ (ne_eqb c t ne))) (omega (arith, held.kept.within c a b, length_rows heads cells c)))
    (cases_eq c t) in
    let zeroth : cond (eqb 0 t) (length (nodes_of heads cells 0) + 1) (length (nodes_of heads cells 0)) ≡ length (nodes_of heads cells 0) = cond-false (eqb 0 t) _ _ (ne_eqb 0 t (omega arith)) in
    let all : 9 + sum_to 9 (λ c. length (nodes_of heads cells c)) ≡ length (pointers heads cells) = subst (λ n. n + sum_to n (λ c. length (nodes_of heads cells c)) ≡ length (pointers heads cells)) held.width held.sound.total in
    omega (
      arith,
      one,
      all,
      length_pointers cells heads,
      held.width,
      held.size,
      zeroth,
      each 1 (omega arith) (omega arith),
      each 2 (omega arith) (omega arith),
      each 3 (omega arith) (omega arith),
      each 4 (omega arith) (omega arith),
      each 5 (omega arith) (omega arith),
      each 6 (omega arith) (omega arith),
      each 7 (omega arith) (omega arith),
      each 8 (omega arith) (omega arith),
    )

-- a key that was sought by its bits
pub missed : (k : ℤ) (is : List ℕ) (rows : List Entry) (at : ℕ) → SFits w32 k → Err at ≡ spot (to_z w32 (of_z w32 k)) is rows → (holds k rows ≡ false) × (at ≡ prior is (rank k rows))
missed k is rows at f e =
    let q : Err at ≡ spot k is rows = e ∙ ap (λ z. spot z is rows) (to_z-of_z w32 k f) in
    let P : Bool → Type 0 = λ b. Err at ≡ cond b (Ok (prior is (rank k rows))) (Err (prior is (rank k rows))) → (b ≡ false) × (at ≡ prior is (rank k rows)) in
    let r : P (holds k rows) = elim (holds k rows) as P [ true ↦ (λ x. let z : ◌≡◌ {A = ℕ} 0 1 = cc in absurd (omega arith)) | false ↦ (λ x. (refl, cc)) ] in
    r q

pub found : (k : ℤ) (is : List ℕ) (rows : List Entry) (at : ℕ) → SFits w32 k → Ok at ≡ spot (to_z w32 (of_z w32 k)) is rows → (holds k rows ≡ true) × (at ≡ prior is (rank k rows))
found k is rows at f e =
    let q : Ok at ≡ spot k is rows = e ∙ ap (λ z. spot z is rows) (to_z-of_z w32 k f) in
    let P : Bool → Type 0 = λ b. Ok at ≡ cond b (Ok (prior is (rank k rows))) (Err (prior is (rank k rows))) → (b ≡ true) × (at ≡ prior is (rank k rows)) in
    let r : P (holds k rows) = elim (holds k rows) as P [ true ↦ (λ x. (refl, cc)) | false ↦ (λ x. let z : ◌≡◌ {A = ℕ} 0 1 = cc in absurd (omega arith)) ] in
    r q

pub spot_found : (k : ℤ) (is : List ℕ) (rows : List Entry) (i at : ℕ) → at ≡ prior is i → (holds k rows ≡ true) × (rank k rows ≡ i) → Ok at ≡ spot k is rows
spot_found k is rows i at e (h, p) = ap Ok (e ∙ ap (prior is) (sym p)) ∙ sym (cond-true (holds k rows) _ _ h)

pub spot_missed : (k : ℤ) (is : List ℕ) (rows : List Entry) (i at : ℕ) → at ≡ prior is i → (holds k rows ≡ false) × (rank k rows ≡ i) → Err at ≡ spot k is rows
spot_missed k is rows i at e (h, p) = ap Err (e ∙ ap (prior is) (sym p)) ∙ sym (cond-false (holds k rows) _ _ h)
