-- Numbers.
use Rattle.std.specs.Prelude.{ℕ, ◌+◌, ◌-◌, ◌*◌, cond, ◌&&◌, List, length, Some, None, fold, Option, ◌==◌, nat_le, nat_lt, slice_index}

-- One digit more at the end of a number.
abbrev pub with_digit : ℕ → ℕ → ℕ
with_digit n digit = 10 * n + (digit - 48)

-- The value of a run of digits.
unfoldable pub value_of : List ℕ → ℕ
value_of digits = fold with_digit 0 digits

-- A number is at most a thousand million.
abbrev pub in_range : ℕ → Option ℕ
in_range n = cond (nat_le n 1000000000) (Some n) None

-- The number that a run of digits is, if it is one: it has no leading zero and is in range.
abbrev pub number_of : List ℕ → Option ℕ
number_of digits = cond (nat_lt 1 (length digits) && slice_index digits 0 == 48) None (in_range (value_of digits))
