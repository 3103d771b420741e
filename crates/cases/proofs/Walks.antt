-- The steps of the loops over words and chains.
use Rattle.std.proofs.Common.{◌≡◌, ℕ, zero, suc, ◌+◌, ◌-◌, ◌*◌, ◌^◌, ◌<◌, ◌≤◌, Bool, true, false, cond, eqb, ltb, leb, List, [], ◌∷◌, ◌++◌, map, length, get_or, set, slice_get, Some, None, IfSome, Ok, Err, Option, MatchOption, Result, sym, refl, ap, ◌∙◌, inl, inr, add-one, arith}
use Rattle.std.specs.Option.{option_map}
use Rattle.std.proofs.lemmas.List.{length-map}
use Rattle.std.proofs.lemmas.Bool.{cond-true, cond-false, cases_Bool, ltb-true, leb-true, lt-ltb, le-leb, and_from, and_parts}
use Rattle.faults.specs.declared.Fault.{Fault}
use Rattle.faults.specs.declared.Fault.TheVariants.{BadCase}
use Rattle.cases.specs.Words.{record_word}
use Rattle.cases.specs.Ranges.{first_out, size_of, out_of_range}
use Rattle.cases.specs.Chains.{pointer, is_index, chain, trail, trail_from, trails, met, met_again, item, chain_from}
use Rattle.cases.specs.Meaning.{◌then◌, case_verdict, numbers_from, lists_from, in_list, list_item}

-- ---- words

-- All words are in their range.
none_out : (ok : ℕ → Bool) (w count : ℕ) → ((k : ℕ) → w ≤ k → k < w + count → ok k ≡ true) → first_out ok w count ≡ Ok tt
none_out ok w zero all = refl
none_out ok w (suc count) all = cond-true _ _ _ (all w (omega arith) (omega arith)) ∙ none_out ok (suc w) count (λ k a b. all k (omega arith) (omega arith))

-- A word is out of its range, and those before it are not.
one_out : (ok : ℕ → Bool) (w count j at : ℕ) → at ≡ w + j → j < count → ok at ≡ false → ((k : ℕ) → w ≤ k → k < at → ok k ≡ true) → first_out ok w count ≡ Err (BadCase (4 * at))
one_out ok w zero j at e lt ne all = absurd (omega arith)
one_out ok w (suc count) zero at e lt ne all = let is : w ≡ at = omega arith in cond-false _ _ _ (ap ok is ∙ ne) ∙ ap (λ k. Err (BadCase (4 * k))) is
one_out ok w (suc count) (suc j) at e lt ne all = cond-true _ _ _ (all w (omega arith) (omega arith)) ∙ one_out ok (suc w) count j at (omega arith) (omega arith) ne (λ k a b. all k (omega arith) b)

-- What the first word out of its range answers, if there is one.
pub out_told : (ok : ℕ → Bool) (n last : ℕ) (r : Option ℕ) → MatchOption r ((k : ℕ) → 1 ≤ k → k < last → ok k ≡ true) (λ i. (1 ≤ i) × (i < last) × (ok i ≡ false) × ((k : ℕ) → 1 ≤ k → k < i → ok k ≡ true)) → last ≡ 19 + 9 * n → MatchOption r (first_out ok 1 (18 + 9 * n) ≡ Ok tt) (λ i. (i < 19 + 9 * n) × (first_out ok 1 (18 + 9 * n) ≡ Err (BadCase (4 * i))))
out_told ok n last None all e = none_out ok 1 (18 + 9 * n) (λ k a b. all k a (omega arith))
out_told ok n last (Some i) h e = (omega (arith, h.1), one_out ok 1 (18 + 9 * n) (i - 1) i (omega (arith, h.0)) (omega (arith, h.0, h.1)) h.2 h.3)

-- ---- chains

-- A number from 1 up to the count of records is an index.
pub is_index_lem : (n i : ℕ) → 0 < i → i ≤ n → is_index n i ≡ true
is_index_lem n i a b = and_from _ _ (lt-ltb 0 i a) (le-leb i n b)

-- A trail from a word of the file.
pub record IsTrail (b : List ℕ) (n : ℕ) (hs : List (ℕ × ℕ)) : Type 0 where
  pub most : ℕ
  pub word : ℕ
  pub near : word < 10000
  pub is : hs ≡ trail b n most word

-- The first link of a trail points from its word to a record, and the others go on from there.
pub trail_step : (b : List ℕ) (n : ℕ) (h : ℕ × ℕ) (hs : List (ℕ × ℕ)) → n ≤ 1024 → IsTrail b n (h ∷ hs) → (h.0 < 10000) × (h.1 ≤ n) × IsTrail b n hs
trail_step b n h hs few t = step t.most t.is where
  step : (most : ℕ) → h ∷ hs ≡ trail b n most t.word → (h.0 < 10000) × (h.1 ≤ n) × IsTrail b n hs
  step zero e = cc
  step (suc most) e =
      elim (cases_Bool (is_index n (pointer b t.word))) [
        | inl i ↦
            let here : h ∷ hs ≡ (t.word, pointer b t.word) ∷ trail b n most (record_word (pointer b t.word)) = e ∙ cond-true _ _ _ i in
            let first : h ≡ (t.word, pointer b t.word) = cc in
            let high : pointer b t.word ≤ n = leb-true (pointer b t.word) n (and_parts (ltb 0 (pointer b t.word)) (leb (pointer b t.word) n) i).1 in
            let near = t.near in
            let word : h.0 ≡ t.word = ap (λ (x : ℕ × ℕ). x.0) first in
            let index : h.1 ≡ pointer b t.word = ap (λ (x : ℕ × ℕ). x.1) first in
            (omega arith, omega arith, record { most = most; word = record_word (pointer b t.word); near = omega arith; is = cc })
        | inr f ↦ let none : h ∷ hs ≡ [] = e ∙ cond-false _ _ _ f in cc
      ]

-- The records along a trail are the chain.
chain_of_trail : (b : List ℕ) (n most w : ℕ) → map (λ (h : ℕ × ℕ). h.1) (trail b n most w) ≡ chain b n most (pointer b w)
chain_of_trail b n zero w = refl
chain_of_trail b n (suc most) w =
    elim (cases_Bool (is_index n (pointer b w))) [
      | inl t ↦ ap (map (λ (h : ℕ × ℕ). h.1)) (cond-true _ _ _ t) ∙ ap (λ l. pointer b w ∷ l) (chain_of_trail b n most (record_word (pointer b w))) ∙ sym (cond-true _ _ _ t)
      | inr f ↦ ap (map (λ (h : ℕ × ℕ). h.1)) (cond-false _ _ _ f) ∙ sym (cond-false _ _ _ f)
    ]

pub trail_length : (b : List ℕ) (n most w : ℕ) → length (trail b n most w) ≡ length (chain b n most (pointer b w))
trail_length b n most w = sym (length-map (trail b n most w) (λ (h : ℕ × ℕ). h.1)) ∙ ap length (chain_of_trail b n most w)

pub trail_short : (b : List ℕ) (n most w : ℕ) → length (trail b n most w) ≤ most
trail_short b n zero w = omega arith
trail_short b n (suc most) w =
    elim (cases_Bool (is_index n (pointer b w))) [
      | inl t ↦ rw (cond-true (is_index n (pointer b w)) ((w, pointer b w) ∷ trail b n most (record_word (pointer b w))) [] t) (omega (arith, trail_short b n most (record_word (pointer b w))))
      | inr f ↦ rw (cond-false (is_index n (pointer b w)) ((w, pointer b w) ∷ trail b n most (record_word (pointer b w))) [] f) (omega arith)
    ]

pub item_map : {A B : Type 0} (f : A → B) (xs : List A) (k : ℕ) → item (map f xs) k ≡ option_map f (item xs k)
item_map f [] k = refl
item_map f (x ∷ xs) zero = refl
item_map f (x ∷ xs) (suc k) = item_map f xs k

item_get : {A : Type 0} (xs : List A) (k : ℕ) → slice_get xs k ≡ item xs k
item_get [] k = refl
item_get (x ∷ xs) zero = refl
item_get (x ∷ xs) (suc k) = item_get xs k

pub trail_item : (b : List ℕ) (n most w k : ℕ) (r : Option (ℕ × ℕ)) → option_map (λ h. h) r ≡ slice_get (trail b n most w) k → option_map (λ h. h.1) r ≡ item (chain b n most (pointer b w)) k
trail_item b n most w k r e =
    ap (option_map (λ (h : ℕ × ℕ). h.1)) (same r ∙ e ∙ item_get (trail b n most w) k) ∙ sym (item_map (λ (h : ℕ × ℕ). h.1) (trail b n most w) k) ∙ ap (λ l. item l k) (chain_of_trail b n most w) where
      same : (r : Option (ℕ × ℕ)) → r ≡ option_map (λ h. h) r
      same None = refl
      same (Some h) = refl

pub met_more : (noted : List Bool) (w i : ℕ) (hs : List (ℕ × ℕ)) → get_or noted i false ≡ false → met noted ((w, i) ∷ hs) ≡ met (set noted i true) hs
met_more noted w i hs e = cond-false _ _ _ e

-- After some words that meet nothing again come further ones.
pub met_on : (hs gs : List (ℕ × ℕ)) (noted after : List Bool) → met noted hs ≡ Ok after → met noted (hs ++ gs) ≡ met after gs
met_on [] gs noted after e = let same : noted ≡ after = cc in ap (λ m. met m gs) same
met_on (h ∷ hs) gs noted after e =
    elim (cases_Bool (get_or noted h.1 false)) [
      | inl t ↦ let err : met noted (h ∷ hs) ≡ Err (BadCase (4 * h.0)) = cond-true _ _ _ t in cc
      | inr f ↦ cond-false _ _ _ f ∙ met_on hs gs (set noted h.1 true) after (sym (cond-false _ _ _ f) ∙ e)
    ]

pub met_stop : (hs gs : List (ℕ × ℕ)) (noted : List Bool) (f : Fault) → met noted hs ≡ Err f → met noted (hs ++ gs) ≡ Err f
met_stop [] gs noted f e = cc
met_stop (h ∷ hs) gs noted f e =
    elim (cases_Bool (get_or noted h.1 false)) [
      | inl t ↦ let err : met noted (h ∷ hs) ≡ Err (BadCase (4 * h.0)) = cond-true _ _ _ t in cond-true _ _ _ t ∙ sym err ∙ e
      | inr s ↦ cond-false _ _ _ s ∙ met_stop hs gs (set noted h.1 true) f (sym (cond-false _ _ _ s) ∙ e)
    ]

-- One head is passed.
pub trails_more : (b : List ℕ) (n w heads : ℕ) → 0 < heads → trails b n w heads ≡ cond (eqb w 10) [] (trail_from b n w) ++ trails b n (w + 1) (heads - 1)
trails_more b n w zero h = absurd (omega arith)
trails_more b n w (suc heads) h = ap (λ k. cond (eqb w 10) [] (trail_from b n w) ++ trails b n k heads) (sym (add-one w)) ∙ ap (λ k. cond (eqb w 10) [] (trail_from b n w) ++ trails b n (w + 1) k) back where
  back : heads ≡ suc heads - 1
  back = omega arith

-- ---- positions

-- A record at a position is one of the file.
pub chain_index : (b : List ℕ) (n most i k j : ℕ) → item (chain b n most i) k ≡ Some j → (0 < j) × (j ≤ n)
chain_index b n zero i k j e = cc
chain_index b n (suc most) i k j e =
    elim (cases_Bool (is_index n i)) [
      | inl t ↦ first k (ap (λ l. item l k) (sym (cond-true (is_index n i) (i ∷ chain b n most (pointer b (record_word i))) [] t)) ∙ e) (and_parts _ _ t) (λ k. chain_index b n most (pointer b (record_word i)) k j)
      | inr f ↦ let none : None ≡ Some j = ap (λ l. item l k) (sym (cond-false (is_index n i) (i ∷ chain b n most (pointer b (record_word i))) [] f)) ∙ e in cc
    ] where
      first : (k : ℕ) → item (i ∷ chain b n most (pointer b (record_word i))) k ≡ Some j → (ltb 0 i ≡ true) × (leb i n ≡ true) → ((k : ℕ) → item (chain b n most (pointer b (record_word i))) k ≡ Some j → (0 < j) × (j ≤ n)) → (0 < j) × (j ≤ n)
      first zero p t more = let lo = ltb-true 0 i t.0 in let hi = leb-true i n t.1 in let same : i ≡ j = cc in (omega arith, omega arith)
      first (suc k) p t more = more k p

-- No record stands at a position past the most that are asked for.
pub chain_past : (b : List ℕ) (n most i k : ℕ) → most ≤ k → item (chain b n most i) k ≡ None
chain_past b n zero i k h = refl
chain_past b n (suc most) i zero h = absurd (omega arith)
chain_past b n (suc most) i (suc k) h =
    elim (cases_Bool (is_index n i)) [
      | inl t ↦ ap (λ l. item l (suc k)) (cond-true _ _ _ t) ∙ chain_past b n most (pointer b (record_word i)) k (omega arith)
      | inr f ↦ ap (λ l. item l (suc k)) (cond-false _ _ _ f)
    ]

pub item_index : (b : List ℕ) (n w k : ℕ) (r : Option ℕ) → n ≤ 1024 → r ≡ item (chain_from b n w) k → IfSome r (λ i. (0 < i) × (i < 2 ^ 31))
item_index b n w k None few e = tt
item_index b n w k (Some i) few e = let index = chain_index b n n (pointer b w) k i (sym e) in (index.0, omega arith)

-- ---- lists

pub lists_count : (b : List ℕ) (n w count : ℕ) → length (lists_from b n w count) ≡ count
lists_count b n w zero = refl
lists_count b n w (suc count) = omega (arith, lists_count b n (suc w) count)

pub list_at : (b : List ℕ) (n w count k : ℕ) → k < count → item (lists_from b n w count) k ≡ Some (numbers_from b n (w + k))
list_at b n w zero k h = absurd (omega arith)
list_at b n w (suc count) zero h = ap (λ v. Some (numbers_from b n v)) same where
  same : w ≡ w + 0
  same = omega arith
list_at b n w (suc count) (suc k) h = list_at b n (suc w) count k (omega arith) ∙ ap (λ v. Some (numbers_from b n v)) over where
  over : suc w + k ≡ w + suc k
  over = omega arith

pub list_past : (b : List ℕ) (n w count k : ℕ) → count ≤ k → item (lists_from b n w count) k ≡ None
list_past b n w zero k h = refl
list_past b n w (suc count) zero h = absurd (omega arith)
list_past b n w (suc count) (suc k) h = list_past b n (suc w) count k (omega arith)

-- The three tests, in their order.
pub verdict_size : (tables : ℕ) (b : List ℕ) (f : Fault) → size_of b ≡ Err f → case_verdict tables b ≡ Err f
unfolding case_verdict
verdict_size tables b f e = ap (λ r. r then (λ n. out_of_range b tables n then (λ _. met_again b n then (λ _. Ok n)))) e

pub verdict_words : (tables : ℕ) (b : List ℕ) (n : ℕ) (f : Fault) → size_of b ≡ Ok n → out_of_range b tables n ≡ Err f → case_verdict tables b ≡ Err f
unfolding case_verdict
verdict_words tables b n f e g = ap (λ r. r then (λ n. out_of_range b tables n then (λ _. met_again b n then (λ _. Ok n)))) e ∙ ap (λ r. r then (λ _. met_again b n then (λ _. Ok n))) g

pub verdict_chains : (tables : ℕ) (b : List ℕ) (n : ℕ) (r : Result (Unit {0}) Fault) → size_of b ≡ Ok n → out_of_range b tables n ≡ Ok tt → met_again b n ≡ r → case_verdict tables b ≡ (r then (λ _. Ok n))
unfolding case_verdict
verdict_chains tables b n r e g h = ap (λ r. r then (λ n. out_of_range b tables n then (λ _. met_again b n then (λ _. Ok n)))) e ∙ ap (λ r. r then (λ _. met_again b n then (λ _. Ok n))) g ∙ ap (λ r. r then (λ _. Ok n)) h

pub list_none : (b : List ℕ) (n count list k : ℕ) → (0 < list → list ≤ count → ⊥) → None ≡ list_item (lists_from b n 11 count) list k
list_none b n count zero k h = refl
list_none b n count (suc j) k h = let past = h (omega arith) in sym (ap (λ o. in_list o k) (list_past b n 11 count j (omega arith)))

pub list_some : (b : List ℕ) (n count list k : ℕ) → 0 < list → list ≤ count → item (numbers_from b n (10 + list)) k ≡ list_item (lists_from b n 11 count) list k
list_some b n count zero k some le = absurd (omega arith)
list_some b n count (suc j) k some le = ap (λ w. item (numbers_from b n w) k) over ∙ sym (ap (λ o. in_list o k) (list_at b n 11 count j (omega arith))) where
  over : 10 + suc j ≡ 11 + j
  over = omega arith

-- ---- lengths
