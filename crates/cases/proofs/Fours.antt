-- The bytes of a file in fours.
use Rattle.std.proofs.Common.{◌≡◌, ◌^◌, ℕ, pos, Bool, true, false, cond, ltb, slice_index, ◌⊎◌, inl, inr, zero, suc, ◌+◌, ◌*◌, ◌/◌, ◌<◌, List, length, get_or, take, drop, w32, to_z, sym, refl, ap, ◌∙◌, add-zero, arith}
use Rattle.std.specs.Int.{from_be_bytes}
use Rattle.std.specs.Simd.{first_chunks}
use Rattle.std.proofs.lemmas.Bool.{lt-ltb, ltb-true, cond-true, cases_Bool}
use Rattle.std.proofs.lemmas.List.{get_or-take, get_or-drop, drop-drop}
use Rattle.cases.specs.Words.{word, index_of}

-- The four bytes at a place of the fours.
pub four_at : (b : List ℕ) (count at : ℕ) (d : List ℕ) → at < count → get_or (first_chunks 4 count b) at d ≡ take 4 (drop (4 * at) b)
four_at b zero at d h = absurd (omega arith)
four_at b (suc count) zero d h = refl
four_at b (suc count) (suc at) d h = four_at (drop 4 b) count at d (omega arith) ∙ ap (take 4) (drop-drop (4 * at) 4 b ∙ ap (λ k. drop k b) next) where
  next : 4 + 4 * at ≡ 4 * suc at
  next = omega arith

-- Four bytes make the word at their place.
pub word_of_four : (b four : List ℕ) (at : ℕ) → at < length b / 4 → four ≡ take 4 (drop (4 * at) b) → to_z w32 (from_be_bytes w32 four) ≡ word b at
unfolding word
word_of_four b four at h e =
    let byte = λ (i : ℕ) (lt : i < 4). ap (λ l. get_or l i 0) e ∙ get_or-take 4 (drop (4 * at) b) i 0 lt ∙ get_or-drop (4 * at) b i 0 in
    rw (byte 0 (omega arith), byte 1 (omega arith), byte 2 (omega arith), byte 3 (omega arith), add-zero) (sym (cond-true _ _ _ (lt-ltb at (length b / 4) h)))

-- An index in a word is below 2 ^ 31, as the word has a sign.
half : (n : ℕ) → (ltb n (2 ^ 31) ≡ true) ⊎ (ltb n (2 ^ 31) ≡ false) → index_of (to_z w32 n) < 2 ^ 31
half n (inl e) = rw e (ltb-true n (2 ^ 31) e)
half n (inr e) = rw e (omega arith)

some_small : (there : Bool) (n : ℕ) → index_of (cond there (to_z w32 n) (pos 0)) < 2 ^ 31
some_small true n = half n (cases_Bool (ltb n (2 ^ 31)))
some_small false n = omega arith

pub word_small : (b : List ℕ) (at : ℕ) → index_of (word b at) < 2 ^ 31
unfolding word
word_small b at = some_small (ltb at (length b / 4)) (slice_index b (4 * at) * 16777216 + slice_index b (4 * at + 1) * 65536 + slice_index b (4 * at + 2) * 256 + slice_index b (4 * at + 3))
