-- The size of a case file, and the range of each word.
use Rattle.std.specs.Prelude.{ℕ, zero, suc, ◌+◌, ◌-◌, ◌*◌, ◌%◌, Bool, cond, ◌&&◌, List, length, ℤ, pos, Ok, Err, Result, ◌==◌, int_le, nat_le, nat_lt}
use Rattle.faults.specs.declared.Fault.{Fault}
use Rattle.faults.specs.declared.Fault.TheVariants.{BadCase}
use Rattle.meaning.specs.Limits.{lowest, highest}
use Rattle.cases.specs.Words.{word, index_of, file_size}

-- A number lies between two others, these included.
abbrev pub between : ℤ × ℤ → ℤ → Bool
between r z = int_le r.0 z && int_le z r.1

-- The count of records is from 0 to 1,024, and fixes the length; a file that is otherwise is refused at 0.
abbrev pub size_of : List ℕ → Result ℕ Fault
size_of b =
    cond (nat_lt (length b) 76) (Err (BadCase 0)) (
    cond (between (pos 0, pos 1024) (word b 0)) (
    cond (length b == file_size (index_of (word b 0))) (Ok (index_of (word b 0))) (Err (BadCase 0))) (
    Err (BadCase 0)))

-- The range of a word by its place: heads of tables, the head of reads, the count of lists, heads of lists,
-- and in each record the next index and the values. Heads without table or list are 0.
abbrev pub range_of : ℕ → ℤ → ℕ → ℕ → ℤ × ℤ
range_of tables records lists w =
    cond (nat_lt w 9) (pos 0, cond (nat_le w tables) records (pos 0)) (
    cond (w == 9) (pos 0, records) (
    cond (w == 10) (pos 0, pos 8) (
    cond (nat_lt w 19) (pos 0, cond (nat_le (w - 10) lists) records (pos 0)) (
    cond ((w - 19) % 9 == 0) (pos 0, records) (
    (lowest, highest))))))

-- A word is in its range.
abbrev pub fits : List ℕ → ℕ → ℕ → Bool
fits b tables w = between (range_of tables (word b 0) (index_of (word b 10)) w) (word b w)

-- Of some words in file order, the first that is out of its range is refused at its place.
abbrev pub first_out : (ℕ → Bool) → ℕ → ℕ → Result (Unit {0}) Fault
first_out ok w zero = Ok tt
first_out ok w (suc count) = cond (ok w) (first_out ok (suc w) count) (Err (BadCase (4 * w)))

-- All words behind the count of records.
unfoldable pub out_of_range : List ℕ → ℕ → ℕ → Result (Unit {0}) Fault
out_of_range b tables n = first_out (fits b tables) 1 (18 + 9 * n)
