-- Models: schemas, whose tables, references and checks are numbered from 1, and programs. Assumes nothing.
use Rattle.std.specs.Prelude.{ℕ, zero, suc, Bool, cond, List, [], ◌∷◌, ℤ, pos, nat_eq, slice_index_or}
use Rattle.meaning.specs.Values.{Order, same}
use Rattle.meaning.specs.Syntax.{Block}

-- a table's count of attributes, and which of them is the key
pub record Shape : Type 0 where
  pub width : ℕ
  pub key : ℕ

-- a reference: the attribute `from` of the table `of` holds a key of the table `to`
pub record Ref : Type 0 where
  pub of : ℕ
  pub from : ℕ
  pub to : ℕ

-- a check: the attribute `at` of the table `of` is below, at or above a number
pub record Check : Type 0 where
  pub of : ℕ
  pub at : ℕ
  pub order : Order
  pub bound : ℤ

-- the tables, references and checks, each in the order of the text
pub record Schema : Type 0 where
  pub tables : List Shape
  pub refs : List Ref
  pub checks : List Check

-- a model: its schema and its program
pub record Model : Type 0 where
  pub schema : Schema
  pub program : Block

-- the element of a number counted from 1, or d where there is none
abbrev pub by_number : {A : Type 0} → A → List A → ℕ → A
by_number d xs zero = d
by_number d xs (suc n) = slice_index_or xs n d

-- what stands for a table, a reference or a check that there is not
abbrev pub no_shape : Shape
no_shape = record { width = 0; key = 0 }

-- no reference
abbrev pub no_ref : Ref
no_ref = record { of = 0; from = 0; to = 0 }

-- no check
abbrev pub no_check : Check
no_check = record { of = 0; at = 0; order = same; bound = pos 0 }

-- the key of table t
abbrev pub key_of : Schema → ℕ → ℕ
key_of S t = (by_number no_shape S.tables t).key

-- reference n
abbrev pub ref_at : Schema → ℕ → Ref
ref_at S n = by_number no_ref S.refs n

-- check n
abbrev pub check_at : Schema → ℕ → Check
check_at S n = by_number no_check S.checks n

-- the numbers, counted on from n, of those that p picks
abbrev pub places : {A : Type 0} → (A → Bool) → ℕ → List A → List ℕ
places p n [] = []
places p n (a ∷ zs) = cond (p a) (n ∷ places p (suc n) zs) (places p (suc n) zs)

-- the numbers, counted on from n, of all
abbrev pub up_from : {A : Type 0} → ℕ → List A → List ℕ
up_from n [] = []
up_from n (a ∷ zs) = n ∷ up_from (suc n) zs

-- the tables of a schema
abbrev pub tables_of : Schema → List ℕ
tables_of S = up_from 1 S.tables

-- the references of a table
abbrev pub refs_of : Schema → ℕ → List ℕ
refs_of S t = places (λ f. nat_eq f.of t) 1 S.refs

-- the checks of a table
abbrev pub checks_of : Schema → ℕ → List ℕ
checks_of S t = places (λ c. nat_eq c.of t) 1 S.checks

-- the references that name a table
abbrev pub refs_to : Schema → ℕ → List ℕ
refs_to S t = places (λ f. nat_eq f.to t) 1 S.refs
