-- Tables in key order, lawful tables, and cases. Assumes nothing.
use Rattle.std.specs.Prelude.{◌≡◌, ℕ, Bool, true, cond, not, ◌&&◌, List, [], ◌∷◌, map, length, ℤ, int_le, nat_le}
use Rattle.std.proofs.Math.Option.{none, some}
use Rattle.meaning.specs.Values.{numbered, any, all, compares, eq_z}
use Rattle.meaning.specs.Evaluation.{Row, attr, cut}
use Rattle.meaning.specs.Schema.{Schema, key_of, ref_at, check_at, tables_of, refs_of, checks_of}

-- ---- tables

-- a table is its rows, in ascending order of their keys
abbrev pub Table : Type 0
Table = List Row

-- a row put in its place among others, k being the key
abbrev pub among : ℕ → Row → Table → Table
among k r [] = r ∷ []
among k r (a ∷ zs) = cond (int_le (attr r k) (attr a k)) (r ∷ a ∷ zs) (a ∷ among k r zs)

-- rows put in order
abbrev pub in_order : ℕ → List Row → Table
in_order k [] = []
in_order k (r ∷ rs) = among k r (in_order k rs)

-- the rows are in ascending order of their keys
abbrev pub ascending : ℕ → Table → Bool
ascending k [] = true
ascending k (r ∷ rs) = all (λ q. int_le (attr r k) (attr q k)) rs && ascending k rs

-- some row has the value z for the attribute k
abbrev pub has : ℕ → Table → ℤ → Bool
has k T z = any (λ r. eq_z (attr r k) z) T

-- no two rows share a key
abbrev pub distinct : ℕ → Table → Bool
distinct k [] = true
distinct k (r ∷ rs) = not (has k rs (attr r k)) && distinct k rs

-- reference n finds in U a key for each row of T
abbrev pub finds : Schema → ℕ → Table → Table → Bool
finds S n T U = all (λ r. has (key_of S (ref_at S n).to) U (attr r (ref_at S n).from)) T

-- check n is true of each row of T
abbrev pub keeps : Schema → ℕ → Table → Bool
keeps S n T = all (λ r. compares (check_at S n).order (attr r (check_at S n).at) (check_at S n).bound) T

-- ---- lawful tables

-- table t has at most R rows, no two with one key; every reference's value is a key of the table that it names, and every check
-- is true of every row
abbrev pub lawful_table : Schema → ℕ → (ℕ → Table) → ℕ → Bool
lawful_table S R T t =
    nat_le (length (T t)) R && (distinct (key_of S t) (T t) && (all (λ n. finds S n (T t) (T (ref_at S n).to)) (refs_of S t) && all (λ n. keeps S n (T t)) (checks_of S t)))

-- every table of the schema is lawful
abbrev pub lawful_tables : Schema → ℕ → (ℕ → Table) → Bool
lawful_tables S R T = all (lawful_table S R T) (tables_of S)

-- the same as a fact
abbrev pub LawfulTables : Schema → ℕ → (ℕ → Table) → Type 0
LawfulTables S R T = lawful_tables S R T ≡ true

-- ---- cases

-- a case: the rows of each table in any order, the numbers to READ and the lists to LOAD
pub record Case : Type 0 where
  pub rows : ℕ → List Row
  pub reads : List ℤ
  pub lists : List (List ℤ)

-- a table of the schema at the start: as many values as it has attributes, in key order; no other table has rows
abbrev pub begun : Schema → Case → ℕ → Table
begun S κ t = elim (numbered S.tables t) [ none ↦ [] | some h ↦ in_order h.key (map (cut h.width) (κ.rows t)) ]

-- the tables of a case are lawful
abbrev pub Lawful : Schema → ℕ → Case → Type 0
Lawful S R κ = LawfulTables S R (begun S κ)
