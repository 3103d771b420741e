-- What a case file means.
use Rattle.std.specs.Prelude.{ℕ, zero, suc, ◌+◌, ◌-◌, min, Bool, cond, ◌&&◌, List, [], ◌∷◌, map, length, ℤ, Some, None, Ok, Err, Option, Result, nat_le, nat_lt, slice_index}
use Rattle.faults.specs.declared.Fault.{Fault}
use Rattle.meaning.specs.Evaluation.{Row}
use Rattle.meaning.specs.Tables.{Case}
use Rattle.cases.specs.Words.{word, record_word}
use Rattle.cases.specs.Ranges.{size_of, out_of_range}
use Rattle.cases.specs.Chains.{pointer, chain_from, met_again, item}

-- One test after another; the first refusal stands.
infixr 20 ◌then◌
abbrev pub ◌then◌ : {A B : Type 0} → Result A Fault → (A → Result B Fault) → Result B Fault
Ok a then f = f a
Err e then f = Err e

-- The count of records of a well-formed file, or its refusal: the size first, then the words in file order,
-- then the chains in the order of their heads.
unfoldable pub case_verdict : ℕ → List ℕ → Result ℕ Fault
case_verdict tables b = size_of b then (λ n. out_of_range b tables n then (λ _. met_again b n then (λ _. Ok n)))

-- Some words in a row.
abbrev pub values : List ℕ → ℕ → ℕ → List ℤ
values b w zero = []
values b w (suc count) = word b w ∷ values b (suc w) count

-- A record as a row: as many values as the table has attributes.
abbrev pub row_of : List ℕ → ℕ → ℕ → Row
row_of b width i = values b (record_word i + 1) (min width 8)

-- A table of the model, of which there are at most 8.
abbrev pub is_table : ℕ → ℕ → Bool
is_table tables t = nat_lt 0 t && nat_le t (min tables 8)

-- The rows of a table, in chain order.
abbrev pub rows_of : List ℕ → List ℕ → ℕ → ℕ → List Row
rows_of b widths n t = cond (is_table (length widths) t) (map (row_of b (slice_index widths (t - 1))) (chain_from b n t)) []

-- The first value of a record.
abbrev pub first_value : List ℕ → ℕ → ℤ
first_value b i = word b (record_word i + 1)

-- The numbers of the chain whose head is a word.
abbrev pub numbers_from : List ℕ → ℕ → ℕ → List ℤ
numbers_from b n w = map (first_value b) (chain_from b n w)

-- Lists whose heads stand in a row.
abbrev pub lists_from : List ℕ → ℕ → ℕ → ℕ → List (List ℤ)
lists_from b n w zero = []
lists_from b n w (suc count) = numbers_from b n w ∷ lists_from b n (suc w) count

-- The case of a file with n records, for tables of these counts of attributes.
abbrev pub case_of : List ℕ → List ℕ → ℕ → Case
case_of b widths n = record { rows = rows_of b widths n; reads = numbers_from b n 9; lists = lists_from b n 11 (pointer b 10) }

-- A number of a list; lists are counted from 1, positions from 0.
abbrev pub in_list : Option (List ℤ) → ℕ → Option ℤ
in_list None k = None
in_list (Some l) k = item l k

abbrev pub list_item : List (List ℤ) → ℕ → ℕ → Option ℤ
list_item ls zero k = None
list_item ls (suc n) k = in_list (item ls n) k
