-- Bytes in hexadecimal.
use Rattle.std.specs.Prelude.{ℕ, ◌+◌, ◌-◌, ◌*◌, cond, ◌&&◌, List, [], ◌∷◌, Some, None, Option, nat_le}

-- A digit is 0 to 9, a to f or A to F.
abbrev pub digit_of : ℕ → Option ℕ
digit_of b =
    cond (nat_le 48 b && nat_le b 57) (Some (b - 48)) (
    cond (nat_le 97 b && nat_le b 102) (Some (b - 97 + 10)) (
    cond (nat_le 65 b && nat_le b 70) (Some (b - 65 + 10)) (
    None)))

-- Two digits are a byte, the high one first.
abbrev pub byte_of : Option ℕ → Option ℕ → Option ℕ
byte_of None o = None
byte_of (Some h) None = None
byte_of (Some h) (Some l) = Some (16 * h + l)

-- A byte before others.
abbrev pub before : Option ℕ → Option (List ℕ) → Option (List ℕ)
before None o = None
before (Some b) None = None
before (Some b) (Some bs) = Some (b ∷ bs)

-- The bytes that pairs of digits are; a digit without another is none.
abbrev pub bytes_of : List ℕ → Option (List ℕ)
bytes_of [] = Some []
bytes_of (h ∷ []) = None
bytes_of (h ∷ l ∷ s) = before (byte_of (digit_of h) (digit_of l)) (bytes_of s)
