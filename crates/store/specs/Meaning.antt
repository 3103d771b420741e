-- What a store means: a row limit, and for each of the tables 1 to 8 its rows, in ascending order of distinct keys.
use Rattle.std.specs.Prelude.{◌≡◌, ℕ, suc, ◌*◌, ◌≤◌, Bool, true, false, cond, not, ◌&&◌, List, [], ◌∷◌, length, ℤ, pos, is_ok, Some, None, Ok, Err, Option, Result, ◌==◌, int_lt, nat_le, nat_lt, slice_index_or}
use Rattle.std.specs.List.{insert, remove}
use Rattle.faults.specs.declared.Fault.{Fault}
use Rattle.faults.specs.declared.Fault.TheVariants.{TooFew, BadLimit, KeyTaken, TableFull, NotThere}
use Rattle.store.specs.declared.Entry.{Entry}

pub record Meaning : Type 0 where
  pub limit : ℕ
  pub tables : ℕ → List Entry

-- Tables are numbered from 1 to 8.
abbrev pub is_table : ℕ → Bool
is_table t = nat_le 1 t && nat_le t 8

-- A row limit is from 1 to 64.
abbrev pub is_limit : ℕ → Bool
is_limit R = nat_le 1 R && nat_le R 64

-- ---- rows in ascending order

-- Each key is above k.
abbrev pub above : ℤ → List Entry → Bool
above k [] = true
above k (e ∷ es) = int_lt k e.key && above k es

-- The keys ascend, so no two are equal.
abbrev pub ascending : List Entry → Bool
ascending [] = true
ascending (e ∷ es) = above e.key es && ascending es

-- How many rows stand before the place of key k: those whose keys are below it.
abbrev pub rank : ℤ → List Entry → ℕ
rank k [] = 0
rank k (e ∷ es) = cond (int_lt e.key k) (suc (rank k es)) 0

-- Whether the key k is there: the first row whose key is not below k has it.
abbrev pub holds : ℤ → List Entry → Bool
holds k [] = false
holds k (e ∷ es) = cond (int_lt e.key k) (holds k es) (not (int_lt k e.key))

-- The rows with one more at its key's place.
abbrev pub with_entry : Entry → List Entry → List Entry
with_entry e rows = insert rows (rank e.key rows) e

-- The rows without that of key k.
abbrev pub without : ℤ → List Entry → List Entry
without k rows = remove rows (rank k rows)

-- What stands for a row where there is none.
abbrev pub no_entry : Entry
no_entry = record { key = pos 0; row = [] }

-- ---- what each call answers, and the meaning that it leaves

-- m with other rows in table t.
abbrev pub updated : Meaning → ℕ → List Entry → Meaning
updated m t rows = record { limit = m.limit; tables = λ u. cond (u == t) rows (m.tables u) }

-- An answer about table t, refused with 14 unless b holds.
abbrev pub unless14 : {A : Type 0} → Bool → A → ℕ → Result A Fault
unless14 b x t = cond b (Ok x) (Err (NotThere t))

-- A table's count of rows.
abbrev pub count_of : Meaning → ℕ → Result ℕ Fault
count_of m t = unless14 (is_table t) (length (m.tables t)) t

-- Whether position p of table t has a row: positions count from 0.
abbrev pub is_position : Meaning → ℕ → ℕ → Bool
is_position m t p = is_table t && nat_lt p (length (m.tables t))

-- The key and the row at a position, if there is a row.
abbrev pub entry_at : Meaning → ℕ → ℕ → Option Entry
entry_at m t p = cond (is_position m t p) (Some (slice_index_or (m.tables t) p no_entry)) None

-- The key at a position.
abbrev pub key_at : Meaning → ℕ → ℕ → Result ℤ Fault
key_at m t p = unless14 (is_position m t p) (slice_index_or (m.tables t) p no_entry).key t

-- The row at a position.
abbrev pub row_at : Meaning → ℕ → ℕ → Result (List ℤ) Fault
row_at m t p = unless14 (is_position m t p) (slice_index_or (m.tables t) p no_entry).row t

-- A put is refused with 14 for no table, then with 12 for a key that is there, then with 13 for a table that is full.
abbrev pub put_answer : Meaning → ℕ → ℤ → Result Unit Fault
put_answer m t k =
    cond (is_table t) (cond (holds k (m.tables t)) (Err (KeyTaken t)) (cond (nat_lt (length (m.tables t)) m.limit) (Ok tt) (Err (TableFull t)))) (Err (NotThere t))

-- A put that is not refused leaves the row among the others; a refusal leaves the meaning.
abbrev pub put_after : Meaning → ℕ → Entry → Meaning
put_after m t e = cond (is_ok (put_answer m t e.key)) (updated m t (with_entry e (m.tables t))) m

-- A take tells the key's row, and is refused with 14 for no table or an absent key.
abbrev pub take_answer : Meaning → ℕ → ℤ → Result (List ℤ) Fault
take_answer m t k = unless14 (is_table t && holds k (m.tables t)) (slice_index_or (m.tables t) (rank k (m.tables t)) no_entry).row t

-- A take that is not refused leaves the other rows; a refusal leaves the meaning.
abbrev pub take_after : Meaning → ℕ → ℤ → Meaning
take_after m t k = cond (is_ok (take_answer m t k)) (updated m t (without k (m.tables t))) m

-- What every store keeps: its limit is one, rows ascend and are at most as many, and there are no others than tables 1 to 8.
pub record Lawful (m : Meaning) : Type 0 where
  pub limited : is_limit m.limit ≡ true
  pub ascends : (t : ℕ) → ascending (m.tables t) ≡ true
  pub within : (t : ℕ) → length (m.tables t) ≤ m.limit
  pub outside : (t : ℕ) → is_table t ≡ false → m.tables t ≡ []

-- The meaning of a store that keeps, for each table t, the rows of t; other tables have none.
abbrev pub storing : ℕ → (ℕ → List Entry) → Meaning
storing R rows = record { limit = R; tables = λ t. cond (is_table t) (rows t) [] }

-- ---- making a store

-- A store with no rows.
abbrev pub empty_of : ℕ → Meaning
empty_of R = record { limit = R; tables = λ _. [] }

-- A store needs as many records as all tables take: 11 for a limit that is none, then 9 for fewer records.
abbrev pub needed : ℕ → ℕ → Result ℕ Fault
needed R records = cond (is_limit R) (cond (nat_lt records (8 * R)) (Err (TooFew (8 * R))) (Ok (8 * R))) (Err (BadLimit R))

-- ---- where a row of key k is sought among ascending rows

-- `Ok` with the place of its row, or `Err` with the place where it would go.
abbrev pub sought : ℤ → List Entry → Result ℕ ℕ
sought k rows = cond (holds k rows) (Ok (rank k rows)) (Err (rank k rows))
