-- What is worked out item by item is the value or the truth of the tree that the items stand for.
use Rattle.std.proofs.Common.{◌≡◌, ℕ, true, false, not, pos, refl, ap, ◌∙◌}
use mathlib.Core.Option.{Option, some}
use Rattle.meaning.specs.Values.{bind, Op, add, sub, mul, div, operate, negate, Order, less, same, more, compares, Connective, and, or, connect}
use Rattle.meaning.specs.Evaluation.{Env, Row, value, truth}
use Rattle.meaning.specs.Syntax.{op, con, cmp}
use Rattle.model.specs.declared.program.Operator.{Operator}
use Rattle.model.specs.declared.program.Operator.TheVariants.{Plus, Minus, Times, Over, Less, Equal, More, And, Or, Not}
use Rattle.model.specs.declared.program.Item.{Item}
use Rattle.model.specs.declared.program.Item.TheVariants.{Open, Close, Sign, Number, Integer, Attribute, Head, Cell, Truth, Nil}
use Rattle.model.specs.Machine.{term}
use Rattle.model.specs.Terms.{Term, nothing, expression, condition, as_expression, as_condition, minus, apply, atom, trees}
use Rattle.model.specs.Working.{Worked, number, fact, as_number, as_fact, computed, compared, joined, combined, single, worths}
use Rattle.model.specs.Laws.{WorksOut}
use Rattle.model.proofs.Mapping.{Maps, reads_alike}

module _ (η : Env ℕ ℕ ℕ) (r : Option Row) where
  -- What a term comes to.
  abbrev comes : Term → Worked
  comes nothing = number (some (pos 0))
  comes (expression e) = number (value η r e)
  comes (condition c) = fact (truth η r c)

  as_number_lem : (t : Term) → value η r (as_expression t) ≡ as_number (comes t)
  as_number_lem nothing = refl
  as_number_lem (expression e) = refl
  as_number_lem (condition c) = refl

  as_fact_lem : (t : Term) → truth η r (as_condition t) ≡ as_fact (comes t)
  as_fact_lem nothing = refl
  as_fact_lem (expression e) = refl
  as_fact_lem (condition c) = refl

  computes : (o : Op) (s t : Term) → number (value η r (op o (as_expression s) (as_expression t))) ≡ computed o (comes s) (comes t)
  computes o s t = (λ i. number (bind (as_number_lem s i) (λ a. bind (as_number_lem t i) (λ b. operate o a b))))

  compares_so : (o : Order) (s t : Term) → fact (truth η r (cmp o (as_expression s) (as_expression t))) ≡ compared o (comes s) (comes t)
  compares_so o s t = (λ i. fact (bind (as_number_lem s i) (λ a. bind (as_number_lem t i) (λ b. some (compares o a b)))))

  joins_so : (o : Connective) (s t : Term) → fact (truth η r (con o (as_condition s) (as_condition t))) ≡ joined o (comes s) (comes t)
  joins_so o s t = (λ i. fact (connect o (as_fact_lem s i) (as_fact_lem t i)))

  subtracts : (s t : Term) → number (value η r (minus s t)) ≡ computed sub (comes s) (comes t)
  subtracts nothing t = ap (λ v. number (bind v negate)) (as_number_lem t)
  subtracts (expression e) t = computes sub (expression e) t
  subtracts (condition c) t = computes sub (condition c) t

  comes_apply : (o : Operator) (s t : Term) → comes (apply o s t) ≡ combined o (comes s) (comes t)
  comes_apply Plus s t = computes add s t
  comes_apply Minus s t = subtracts s t
  comes_apply Times s t = computes mul s t
  comes_apply Over s t = computes div s t
  comes_apply Less s t = compares_so less s t
  comes_apply Equal s t = compares_so same s t
  comes_apply More s t = compares_so more s t
  comes_apply And s t = joins_so and s t
  comes_apply Or s t = joins_so or s t
  comes_apply Not s t = ap (λ v. fact (bind v (λ a. some (not a)))) (as_fact_lem t)

  comes_atom : (i : Item) → comes (atom i) ≡ single η r i
  comes_atom Open = refl
  comes_atom Close = refl
  comes_atom (Sign o) = refl
  comes_atom (Number n) = refl
  comes_atom (Integer v) = refl
  comes_atom (Attribute k) = refl
  comes_atom (Head v) = refl
  comes_atom (Cell v k) = refl
  comes_atom (Truth true) = refl
  comes_atom (Truth false) = refl
  comes_atom (Nil v) = refl

  comes_so : Maps trees (worths η r) comes
  comes_so = record { blank = refl; atom = comes_atom; apply = comes_apply }

pub works_out : WorksOut
works_out η r is =
    let alike = reads_alike trees (worths η r) (comes η r) (comes_so η r) is in
    (as_number_lem η r (term trees is).worth ∙ ap (λ q. as_number q.worth) alike, as_fact_lem η r (term trees is).worth ∙ ap (λ q. as_fact q.worth) alike, ap (λ q. q.rest) alike)
