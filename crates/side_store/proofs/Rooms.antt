-- The parts of a store with rows side by side, before and after a change of one.
use Rattle.std.proofs.Common.{◌≡◌, ℕ, suc, ◌+◌, ◌-◌, ◌*◌, ◌<◌, ◌≤◌, true, false, ◌⊎◌, List, ◌∷◌, ◌++◌, length, get_or, take, drop, set, slice_range, ℤ, Ok, Err, sym, refl, ap, ◌∙◌, subst, inl, inr, ⊎_elim, mul-le-mul_right, add-mul, one-mul, arith, w32, SFits, to_z, of_z, rules}
use Rattle.std.proofs.lemmas.List.{places, get_or-set_same, get_or-set_other, length-set, get_or-take, get_or-drop}
use Rattle.std.proofs.lemmas.Int.{to_z-of_z}
use Rattle.std.proofs.lemmas.Bool.{cases_order, cases_eq}
use Rattle.store.specs.declared.Entry.{Entry}
use Rattle.std.specs.declared.ops.Range.{Range}
use Rattle.store.specs.Meaning.{is_table, is_limit, ascending, rank, holds, with_entry, without, sought, no_entry, put_answer, put_after, take_answer, take_after}
use Rattle.store.proofs.Rows.{rank_le, rank_lt, found_from, missed_from}
use Rattle.store.proofs.Calls.{table_from}
use Rattle.store.proofs.Keeping.{Kept}
use Rattle.store.proofs.Keeping as keeping
use Rattle.side_store.specs.declared.tables.SideStore.{SideStore}
use Rattle.side_store.specs.Shifts.{opened, closed}
use Rattle.side_store.specs.Parts.{part, meant}
use Rattle.side_store.proofs.Moves.{opened_part, opened_left, opened_right, closed_part, closed_left, closed_right, length_opened, length_closed}

-- what a store keeps of its limit, counts and slots
pub record Held (limit : ℕ) (counts : List ℕ) (slots : List Entry) : Type 0 where
  pub limited : is_limit limit ≡ true
  pub size : length slots ≡ 8 * limit
  pub width : length counts ≡ 8
  pub within : (u : ℕ) → u < 8 → get_or counts u 0 ≤ limit
  pub ascends : (u : ℕ) → u < 8 → ascending (part limit counts slots u) ≡ true

pub held : (s : SideStore) → Held s.limit s.counts s.slots.now
held s = record { limited = s.limited; size = s.size; width = s.width; within = s.within; ascends = s.ascends }

-- one step of a row of R places
step : (u v R : ℕ) → u < v → u * R + R ≤ v * R
step u v R h = let e : (u + 1) * R ≡ u * R + 1 * R = add-mul u 1 R in let m : (u + 1) * R ≤ v * R = mul-le-mul_right R (omega arith) in omega (arith, one-mul R)

pub inside : (u R : ℕ) → u < 8 → u * R + R ≤ 8 * R
inside u R h = step u 8 R h

apart : (u v R : ℕ) → (v ≡ u → ⊥) → (v * R + R ≤ u * R) ⊎ (u * R + R ≤ v * R)
apart u v R ne = ⊎_elim (λ e. absurd (ne e)) (⊎_elim (λ h. inl (step v u R h)) (λ h. inr (step u v R h))) (cases_order v u)

module _ (R : ℕ) (counts : List ℕ) (slots : List Entry) (held : Held R counts slots) where
  pub length_part : (u : ℕ) → u < 8 → length (part R counts slots u) ≡ get_or counts u 0
  length_part u lt =
      let a = inside u R lt in let b = held.within u lt in let s = held.size in
      search (rules, places)

  pub get_d_part : (u : ℕ) → u < 8 → (p : ℕ) (d : Entry) → p < get_or counts u 0 → get_or (part R counts slots u) p d ≡ get_or slots (u * R + p) d
  get_d_part u lt p d h = get_or-take _ _ p d h ∙ get_or-drop (u * R) slots p d

  pub kept : Kept R (λ t. part R counts slots (t - 1))
  kept = record {
    limited = held.limited;
    ascends = λ t a b. held.ascends (t - 1) (omega arith);
    within = λ t a b. let w = held.within (t - 1) (omega arith) in omega (arith, length_part (t - 1) (omega arith));
  }

-- the invariants after a change of the slots and of one count
changed : (R : ℕ) (counts : List ℕ) (slots : List Entry) → Held R counts slots → (w n : ℕ) (slots' : List Entry) → length slots' ≡ length slots → n ≤ R
    → Kept R (λ u. part R (set counts w n) slots' (u - 1)) → Held R (set counts w n) slots'
changed R counts slots held w n slots' size few k = record {
  limited = held.limited;
  size = size ∙ held.size;
  width = length-set counts w n ∙ held.width;
  within = λ u lt. ⊎_elim
      (λ e. subst (λ i. get_or (set counts w n) i 0 ≤ R) (sym e) (subst (λ x. x ≤ R) (sym (get_or-set_same counts w n 0 (omega (arith, held.width)))) few))
      (λ ne. subst (λ x. x ≤ R) (sym (get_or-set_other counts w u n 0 ne)) (held.within u lt))
      (cases_eq u w);
  ascends = λ u lt. subst (λ i. ascending (part R (set counts w n) slots' i) ≡ true) (omega arith) (k.ascends (u + 1) (omega arith) (omega arith));
}

module _ (R : ℕ) (counts : List ℕ) (slots : List Entry) (held : Held R counts slots) (t : ℕ) (from : 1 ≤ t) (to : t ≤ 8) where
  pub put_here : (e : Entry) (slots' : List Entry) (b at : ℕ) → b ≡ (t - 1) * R → get_or counts (t - 1) 0 < R
      → (holds e.key (part R counts slots (t - 1)) ≡ false) × (rank e.key (part R counts slots (t - 1)) ≡ at)
      → slots' ≡ opened slots (b + at) (b + get_or counts (t - 1) 0) e
      → (Ok tt ≡ put_answer (meant R counts slots) t e.key) × (meant R (set counts (t - 1) (get_or counts (t - 1) 0 + 1)) slots' ≡ put_after (meant R counts slots) t e) × Held R (set counts (t - 1) (get_or counts (t - 1) 0 + 1)) slots'
  put_here e slots' b at base lt (free, pl) is =
      let lt8 : t - 1 < 8 = omega arith in
      let w : t - 1 < length counts = omega (arith, held.width) in
      let len = length_part R counts slots held (t - 1) lt8 in
      let le : at ≤ get_or counts (t - 1) 0 = omega (arith, rank_le e.key (part R counts slots (t - 1))) in
      let fit : b + get_or counts (t - 1) 0 < length slots = omega (arith, inside (t - 1) R lt8, held.size) in
      let here : part R (set counts (t - 1) (get_or counts (t - 1) 0 + 1)) slots' (t - 1) ≡ with_entry e (part R counts slots (t - 1)) =
      ap (λ m. take m (drop ((t - 1) * R) slots')) (get_or-set_same counts (t - 1) (get_or counts (t - 1) 0 + 1) 0 w)
      ∙ ap (λ a. take (get_or counts (t - 1) 0 + 1) (drop a slots')) (sym base)
      ∙ ap (λ s. take (get_or counts (t - 1) 0 + 1) (drop b s)) is
      ∙ opened_part slots b at (get_or counts (t - 1) 0) e le fit
      ∙ ap (λ a. take at (take (get_or counts (t - 1) 0) (drop a slots)) ++ e ∷ drop at (take (get_or counts (t - 1) 0) (drop a slots))) base
      ∙ ap (λ a. take a (part R counts slots (t - 1)) ++ e ∷ drop a (part R counts slots (t - 1))) (sym pl) in
      let there : (v : ℕ) → 1 ≤ v → v ≤ 8 → (v ≡ t → ⊥) → part R (set counts (t - 1) (get_or counts (t - 1) 0 + 1)) slots' (v - 1) ≡ part R counts slots (v - 1) =
      λ v a z ne.
      let other : v - 1 ≡ t - 1 → ⊥ = λ q. ne (omega arith) in
      let cap = held.within (v - 1) (omega arith) in
      ap (λ m. take m (drop ((v - 1) * R) slots')) (get_or-set_other counts (t - 1) (v - 1) (get_or counts (t - 1) 0 + 1) 0 other)
      ∙ ap (λ s. take (get_or counts (v - 1) 0) (drop ((v - 1) * R) s)) is
      ∙ ⊎_elim (λ h. opened_left slots b at (get_or counts (t - 1) 0) e ((v - 1) * R) (get_or counts (v - 1) 0) le fit (omega arith))
      (λ h. opened_right slots b at (get_or counts (t - 1) 0) e ((v - 1) * R) (get_or counts (v - 1) 0) le fit (omega arith))
      (apart (t - 1) (v - 1) R other) in
      let size = ap length is ∙ length_opened slots (b + at) (b + get_or counts (t - 1) 0) e (omega arith) fit in
      let done = keeping.put_here R (λ u. part R counts slots (u - 1)) t from to (kept R counts slots held) (λ u. part R (set counts (t - 1) (get_or counts (t - 1) 0 + 1)) slots' (u - 1)) there e free (omega arith) here in
      (done.0, done.1, changed R counts slots held (t - 1) (get_or counts (t - 1) 0 + 1) slots' size (omega arith) done.2)

  pub take_here : (k : ℤ) (row : List ℤ) (slots' : List Entry) (b at : ℕ) → b ≡ (t - 1) * R
      → (holds k (part R counts slots (t - 1)) ≡ true) × (rank k (part R counts slots (t - 1)) ≡ at)
      → row ≡ (get_or slots (b + at) no_entry).row
      → slots' ≡ closed slots (b + at) (b + get_or counts (t - 1) 0)
      → (Ok row ≡ take_answer (meant R counts slots) t k) × (meant R (set counts (t - 1) (get_or counts (t - 1) 0 - 1)) slots' ≡ take_after (meant R counts slots) t k) × Held R (set counts (t - 1) (get_or counts (t - 1) 0 - 1)) slots'
  take_here k row slots' b at base (there-is, pl) row_is is =
      let lt8 : t - 1 < 8 = omega arith in
      let w : t - 1 < length counts = omega (arith, held.width) in
      let len = length_part R counts slots held (t - 1) lt8 in
      let cap = held.within (t - 1) lt8 in
      let le : at < get_or counts (t - 1) 0 = omega (arith, rank_lt k (part R counts slots (t - 1)) there-is) in
      let fit : b + get_or counts (t - 1) 0 ≤ length slots = omega (arith, inside (t - 1) R lt8, held.size) in
      let here : part R (set counts (t - 1) (get_or counts (t - 1) 0 - 1)) slots' (t - 1) ≡ without k (part R counts slots (t - 1)) =
      ap (λ m. take m (drop ((t - 1) * R) slots')) (get_or-set_same counts (t - 1) (get_or counts (t - 1) 0 - 1) 0 w)
      ∙ ap (λ a. take (get_or counts (t - 1) 0 - 1) (drop a slots')) (sym base)
      ∙ ap (λ s. take (get_or counts (t - 1) 0 - 1) (drop b s)) is
      ∙ closed_part slots b at (get_or counts (t - 1) 0) le fit
      ∙ ap (λ a. take at (take (get_or counts (t - 1) 0) (drop a slots)) ++ drop (suc at) (take (get_or counts (t - 1) 0) (drop a slots))) base
      ∙ ap (λ a. take a (part R counts slots (t - 1)) ++ drop (suc a) (part R counts slots (t - 1))) (sym pl) in
      let there : (v : ℕ) → 1 ≤ v → v ≤ 8 → (v ≡ t → ⊥) → part R (set counts (t - 1) (get_or counts (t - 1) 0 - 1)) slots' (v - 1) ≡ part R counts slots (v - 1) =
      λ v a z ne.
      let other : v - 1 ≡ t - 1 → ⊥ = λ q. ne (omega arith) in
      let most = held.within (v - 1) (omega arith) in
      ap (λ m. take m (drop ((v - 1) * R) slots')) (get_or-set_other counts (t - 1) (v - 1) (get_or counts (t - 1) 0 - 1) 0 other)
      ∙ ap (λ s. take (get_or counts (v - 1) 0) (drop ((v - 1) * R) s)) is
      ∙ ⊎_elim (λ h. closed_left slots b at (get_or counts (t - 1) 0) ((v - 1) * R) (get_or counts (v - 1) 0) le fit (omega arith))
      (λ h. closed_right slots b at (get_or counts (t - 1) 0) ((v - 1) * R) (get_or counts (v - 1) 0) le fit (omega arith))
      (apart (t - 1) (v - 1) R other) in
      let size = ap length is ∙ length_closed slots (b + at) (b + get_or counts (t - 1) 0) (omega arith) fit in
      let row_at : row ≡ (get_or (part R counts slots (t - 1)) (rank k (part R counts slots (t - 1))) no_entry).row =
      row_is ∙ ap (λ a. (get_or slots (a + at) no_entry).row) base
      ∙ sym (ap (λ a. (get_or (part R counts slots (t - 1)) a no_entry).row) pl ∙ ap (λ x. x.row) (get_d_part R counts slots held (t - 1) lt8 at no_entry le)) in
      let done = keeping.take_here R (λ u. part R counts slots (u - 1)) t from to (kept R counts slots held) (λ u. part R (set counts (t - 1) (get_or counts (t - 1) 0 - 1)) slots' (u - 1)) there k row there-is row_at here in
      (done.0, done.1, changed R counts slots held (t - 1) (get_or counts (t - 1) 0 - 1) slots' size (omega arith) done.2)

-- a key sought at the places of table t, from its first slot to behind its last one in use
module _ (s : SideStore) (t : ℕ) (places : Range ℕ)
    (at : (is_table t ≡ true) × (places.start ≡ (t - 1) * s.limit) × (places.end ≡ places.start + get_or s.counts (t - 1) 0) × (places.start + s.limit ≤ length s.slots.now)) where
  here : slice_range s.slots.now places.start places.end ≡ part s.limit s.counts s.slots.now (t - 1)
  here =
      let n : places.end - places.start ≡ get_or s.counts (t - 1) 0 = omega (arith, at.2) in
      ap (λ x. take x (drop places.start s.slots.now)) n ∙ ap (λ b. take (get_or s.counts (t - 1) 0) (drop b s.slots.now)) at.1

  -- the key by its bits
  key_at : (k : ℤ) → SFits w32 k → sought (to_z w32 (of_z w32 k)) (slice_range s.slots.now places.start places.end) ≡ sought k (part s.limit s.counts s.slots.now (t - 1))
  key_at k f = ap (λ z. sought z (slice_range s.slots.now places.start places.end)) (to_z-of_z w32 k f) ∙ ap (sought k) here

  pub ordered : places.start ≤ places.end
  ordered = omega (arith, at.2)

  pub ascending_here : ascending (slice_range s.slots.now places.start places.end) ≡ true
  ascending_here = let h = table_from t at.0 in ap ascending here ∙ s.ascends (t - 1) (omega arith)

  pub missed : (k : ℤ) (i : ℕ) → SFits w32 k → Err i ≡ sought (to_z w32 (of_z w32 k)) (slice_range s.slots.now places.start places.end)
      → (i ≤ get_or s.counts (t - 1) 0) × (holds k (part s.limit s.counts s.slots.now (t - 1)) ≡ false) × (rank k (part s.limit s.counts s.slots.now (t - 1)) ≡ i)
  missed k i f e =
      let h = table_from t at.0 in
      let m = missed_from k _ i (e ∙ key_at k f) in
      (omega (arith, m.1, rank_le k (part s.limit s.counts s.slots.now (t - 1)), length_part s.limit s.counts s.slots.now (held s) (t - 1) (omega arith)), m.0, m.1)

  pub found : (k : ℤ) (i : ℕ) → SFits w32 k → Ok i ≡ sought (to_z w32 (of_z w32 k)) (slice_range s.slots.now places.start places.end)
      → (i < get_or s.counts (t - 1) 0) × (holds k (part s.limit s.counts s.slots.now (t - 1)) ≡ true) × (rank k (part s.limit s.counts s.slots.now (t - 1)) ≡ i)
  found k i f e =
      let h = table_from t at.0 in
      let m = found_from k _ i (e ∙ key_at k f) in
      (omega (arith, m.1, rank_lt k (part s.limit s.counts s.slots.now (t - 1)) m.0, length_part s.limit s.counts s.slots.now (held s) (t - 1) (omega arith)), m.0, m.1)

  pub put_done : (k : ℤ) (row : List ℤ) (i : ℕ) (slots' : List Entry) → SFits w32 k → Err i ≡ sought (to_z w32 (of_z w32 k)) (slice_range s.slots.now places.start places.end)
      → places.end - places.start < s.limit → slots' ≡ opened s.slots.now (places.start + i) places.end (record { key = to_z w32 (of_z w32 k); row = row })
      → (Ok tt ≡ put_answer (meant s.limit s.counts s.slots.now) t k) × (meant s.limit (set s.counts (t - 1) (get_or s.counts (t - 1) 0 + 1)) slots' ≡ put_after (meant s.limit s.counts s.slots.now) t (record { key = k; row = row })) × Held s.limit (set s.counts (t - 1) (get_or s.counts (t - 1) 0 + 1)) slots'
  put_done k row i slots' f e room is =
      let h = table_from t at.0 in
      let m = missed k i f e in
      put_here s.limit s.counts s.slots.now (held s) t h.0 h.1 (record { key = k; row = row }) slots' places.start i at.1 (omega (arith, at.2)) (m.1, m.2)
      (is ∙ ap (λ z. opened s.slots.now (places.start + i) places.end (record { key = z; row = row })) (to_z-of_z w32 k f) ∙ ap (λ to. opened s.slots.now (places.start + i) to (record { key = k; row = row })) at.2)

  pub take_done : (k : ℤ) (i : ℕ) (slots' : List Entry) → SFits w32 k → Ok i ≡ sought (to_z w32 (of_z w32 k)) (slice_range s.slots.now places.start places.end)
      → slots' ≡ closed s.slots.now (places.start + i) places.end
      → (Ok (get_or s.slots.now (places.start + i) no_entry).row ≡ take_answer (meant s.limit s.counts s.slots.now) t k) × (meant s.limit (set s.counts (t - 1) (get_or s.counts (t - 1) 0 - 1)) slots' ≡ take_after (meant s.limit s.counts s.slots.now) t k) × Held s.limit (set s.counts (t - 1) (get_or s.counts (t - 1) 0 - 1)) slots'
  take_done k i slots' f e is =
      let h = table_from t at.0 in
      let m = found k i f e in
      take_here s.limit s.counts s.slots.now (held s) t h.0 h.1 k _ slots' places.start i at.1 (m.1, m.2) refl (is ∙ ap (closed s.slots.now (places.start + i)) at.2)
