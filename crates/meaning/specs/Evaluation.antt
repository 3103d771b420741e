-- Rows, what names stand for, and what an expression or a condition comes to. Assumes nothing.
use Rattle.std.proofs.Math.Option.{Option, none, some}
use Rattle.std.specs.Prelude.{ℕ, zero, suc, Bool, true, false, not, List, [], ◌∷◌, ℤ, pos, slice_index_or}
use Rattle.meaning.specs.Values.{bind, first, is_nil, operate, negate, compares, connect}
use Rattle.meaning.specs.Syntax.{Expression, num, var, att, head, get, op, neg, Condition, tru, fls, con, non, cmp, nil}

-- a row is its attributes' values
abbrev pub Row : Type 0
Row = List ℤ

-- the value of an attribute; one that a row does not have reads as 0
abbrev pub attr : Row → ℕ → ℤ
attr r k = slice_index_or r k (pos 0)

-- the row with another value for one attribute
abbrev pub alter : Row → ℕ → ℤ → Row
alter [] zero z = z ∷ []
alter [] (suc k) z = pos 0 ∷ alter [] k z
alter (a ∷ r) zero z = z ∷ r
alter (a ∷ r) (suc k) z = a ∷ alter r k z

-- the first n values of a row: values not used are not looked at, and those that it does not have read as 0
abbrev pub cut : ℕ → Row → Row
cut zero r = []
cut (suc n) [] = pos 0 ∷ cut n []
cut (suc n) (z ∷ r) = z ∷ cut n r

-- what the names stand for: an integer, a list, and the row that a cursor is on, if any
pub record Env (I L C : Type 0) : Type 0 where
  pub int : I → ℤ
  pub list : L → List ℤ
  pub row : C → Option Row

-- integers at 0, lists NIL, cursors on no row
abbrev pub blank : Env ℕ ℕ ℕ
blank = record { int = λ x. pos 0; list = λ x. []; row = λ x. none }

-- the value of an expression, with the row at hand if any: none where a part has none
abbrev pub value : {I L C : Type 0} → Env I L C → Option Row → Expression I L C → Option ℤ
value η r (num z) = some z
value η r (var x) = some (η.int x)
value η r (att k) = bind r (λ a. some (attr a k))
value η r (head l) = first (η.list l)
value η r (get c k) = bind (η.row c) (λ a. some (attr a k))
value η r (op o e f) = bind (value η r e) (λ a. bind (value η r f) (λ b. operate o a b))
value η r (neg e) = bind (value η r e) negate

-- whether a condition holds: none where a part has no value
abbrev pub truth : {I L C : Type 0} → Env I L C → Option Row → Condition I L C → Option Bool
truth η r tru = some true
truth η r fls = some false
truth η r (con o c d) = connect o (truth η r c) (truth η r d)
truth η r (non c) = bind (truth η r c) (λ a. some (not a))
truth η r (cmp o e f) = bind (value η r e) (λ a. bind (value η r f) (λ b. some (compares o a b)))
truth η r (nil l) = some (is_nil (η.list l))

-- the row that INSERT's values make
abbrev pub values : {I L C : Type 0} → Env I L C → List (Expression I L C) → Option Row
values η [] = some []
values η (e ∷ es) = bind (value η none e) (λ a. bind (values η es) (λ zs. some (a ∷ zs)))
