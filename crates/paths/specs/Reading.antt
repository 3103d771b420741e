-- The mark at the front of some bytes, as the reader finds it.
use Rattle.std.proofs.Math.Option.{Option, none, some}
use Rattle.std.specs.Prelude.{ℕ, ◌+◌, ◌-◌, Bool, cond, ◌&&◌, List, [], ◌∷◌, map, take, Ok, Err, Result, ◌==◌, nat_le, slice_index}
use Rattle.std.specs.Int.Digits.{number_from_digits}
use Rattle.std.specs.List.{prefix_len}
use Rattle.faults.specs.declared.Fault.{Fault}
use Rattle.faults.specs.declared.Fault.TheVariants.{BadPath}
use Rattle.meaning.specs.Letters as letter
use Rattle.meaning.specs.Letters.{Letter}
use Rattle.paths.specs.declared.mark.Mark.TheVariants.{T, E, L, O, N, X, W, K, F, C, D}
use Rattle.paths.specs.Marks.{Held, held_number}

-- 0 to 9
abbrev pub is_digit : ℕ → Bool
is_digit b = nat_le 48 b && nat_le b 57

-- The number that digits write.
unfoldable pub value_of : List ℕ → ℕ
value_of ds = number_from_digits 10 (map (λ b. b - 48) ds)

-- A number is all the digits at the front, and with a zero in front that zero alone; its place is given.
abbrev pub read_digits : ℕ → List ℕ → ℕ → Result (ℕ × ℕ) Fault
read_digits count s at =
    cond (count == 0) (Err (BadPath at)) (
    cond (slice_index s 0 == 48) (Ok (0, at + 1)) (
    Ok (held_number (value_of (take count s)), at + count)))

unfoldable pub read_number : List ℕ → ℕ → Result (ℕ × ℕ) Fault
read_number s at = read_digits (prefix_len is_digit s) s at

-- A letter with the number behind it.
abbrev pub with_number : (ℕ → Held) → Result (ℕ × ℕ) Fault → Result (Held × ℕ) Fault
with_number mark (Ok n) = Ok (mark n.0, n.1)
with_number mark (Err f) = Err f

-- The letter of a byte, if it is one.
abbrev pub letter_by : ℕ → Option Letter
letter_by b =
    cond (b == 84) (some letter.T) (
    cond (b == 69) (some letter.E) (
    cond (b == 76) (some letter.L) (
    cond (b == 79) (some letter.O) (
    cond (b == 78) (some letter.N) (
    cond (b == 88) (some letter.X) (
    cond (b == 87) (some letter.W) (
    cond (b == 75) (some letter.K) (
    cond (b == 70) (some letter.F) (
    cond (b == 67) (some letter.C) (
    cond (b == 68) (some letter.D) (
    none)))))))))))

-- The mark of a letter, by the bytes behind the letter and the letter's place.
abbrev pub mark_by : Option Letter → List ℕ → ℕ → Result (Held × ℕ) Fault
mark_by none s at = Err (BadPath at)
mark_by (some letter.T) s at = Ok (T, at + 1)
mark_by (some letter.E) s at = Ok (E, at + 1)
mark_by (some letter.L) s at = Ok (L, at + 1)
mark_by (some letter.O) s at = Ok (O, at + 1)
mark_by (some letter.N) s at = Ok (N, at + 1)
mark_by (some letter.X) s at = Ok (X, at + 1)
mark_by (some letter.W) s at = Ok (W, at + 1)
mark_by (some letter.K) s at = Ok (K, at + 1)
mark_by (some letter.F) s at = with_number F (read_number s (at + 1))
mark_by (some letter.C) s at = with_number C (read_number s (at + 1))
mark_by (some letter.D) s at = with_number D (read_number s (at + 1))

-- The mark at the front, and the place behind it.
unfoldable pub read_mark : List ℕ → ℕ → Result (Held × ℕ) Fault
read_mark [] at = Err (BadPath at)
read_mark (b ∷ s) at = mark_by (letter_by b) s at
