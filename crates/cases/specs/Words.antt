-- The words of a case file.
use Rattle.std.specs.Prelude.{ℕ, ◌+◌, ◌-◌, ◌*◌, ◌/◌, cond, List, length, ℤ, pos, negsuc, nat_lt, slice_index}
use Rattle.std.specs.Int.{w32}
use Rattle.std.proofs.Common.{to_z}

-- A word is four bytes, the high one first, with a sign; its place is counted in words. Beyond the file words are 0.
unfoldable pub word : List ℕ → ℕ → ℤ
word b w =
    cond (nat_lt w (length b / 4))
    (to_z w32 (slice_index b (4 * w) * 16777216 + slice_index b (4 * w + 1) * 65536 + slice_index b (4 * w + 2) * 256 + slice_index b (4 * w + 3)))
    (pos 0)

-- A word as an index; one below 0 is none.
abbrev pub index_of : ℤ → ℕ
index_of (pos n) = n
index_of (negsuc n) = 0

-- A file has 19 words, and 9 for each record.
abbrev pub file_size : ℕ → ℕ
file_size n = 76 + 36 * n

-- The place of a record's next index; records are counted from 1. Its values stand behind it.
abbrev pub record_word : ℕ → ℕ
record_word i = 19 + 9 * (i - 1)
