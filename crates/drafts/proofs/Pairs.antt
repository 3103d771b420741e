-- Pairs of hexadecimal digits, one by one.
use Rattle.std.proofs.Common.{◌≡◌, ℕ, List, [], ◌∷◌, ◌++◌, length, get_or, Some, None, Option, sym, refl, ap, ◌∙◌, append_assoc, arith}
use Rattle.std.specs.Option.{option_map}
use Rattle.drafts.specs.Hex.{digit_of, byte_of, before, bytes_of}

-- Bytes read so far, before further ones.
abbrev pub onto : List ℕ → Option (List ℕ) → Option (List ℕ)
onto done o = option_map (λ bs. done ++ bs) o

onto_before : (done : List ℕ) (b : ℕ) (o : Option (List ℕ)) → onto done (before (Some b) o) ≡ onto (done ++ (b ∷ [])) o
onto_before done b None = refl
onto_before done b (Some bs) = ap Some (sym (append_assoc done (b ∷ []) bs))

-- One byte is read.
pub pair_more : (pair rest : List ℕ) (b : ℕ) (done : List ℕ) → length pair ≡ 2 → Some b ≡ byte_of (digit_of (get_or pair 0 0)) (digit_of (get_or pair 1 0)) → onto done (bytes_of (pair ++ rest)) ≡ onto (done ++ (b ∷ [])) (bytes_of rest)
pair_more [] rest b done two e = absurd (omega arith)
pair_more (h ∷ []) rest b done two e = absurd (omega arith)
pair_more (h ∷ l ∷ []) rest b done two e = ap (λ o. onto done (before o (bytes_of rest))) (sym e) ∙ onto_before done b (bytes_of rest)
pair_more (h ∷ l ∷ x ∷ more) rest b done two e = absurd (omega arith)
