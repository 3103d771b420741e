-- The expression or the condition that items stand for.
use Rattle.std.specs.Prelude.{ℕ, zero, suc, cond, List, [], ◌∷◌, drop, pos}
use Rattle.meaning.specs.Values.{add, sub, mul, div, less, same, more, and, or}
use Rattle.meaning.specs.Syntax.{Expression, num, var, att, head, get, op, neg, Condition, tru, fls, con, non, cmp, nil}
use Rattle.model.specs.declared.program.Operator.{Operator}
use Rattle.model.specs.declared.program.Operator.TheVariants.{Plus, Minus, Times, Over, Less, Equal, More, And, Or, Not}
use Rattle.model.specs.declared.program.Item.{Item}
use Rattle.model.specs.declared.program.Item.TheVariants.{Open, Close, Sign, Number, Integer, Attribute, Head, Cell, Truth, Nil}
use Rattle.model.specs.Machine.{Worth, term}

-- An expression and a condition over the variables of a program.
abbrev pub Exp : Type 0
Exp = Expression ℕ ℕ ℕ

abbrev pub Cond : Type 0
Cond = Condition ℕ ℕ ℕ

-- Nothing, an expression or a condition.
pub data Term : Type 0 where
  nothing : Term
  expression : Exp → Term
  condition : Cond → Term

-- A term as an expression: one that is none stands for 0.
abbrev pub as_expression : Term → Exp
as_expression nothing = num (pos 0)
as_expression (expression e) = e
as_expression (condition c) = num (pos 0)

-- A term as a condition: one that is none stands for FALSE.
abbrev pub as_condition : Term → Cond
as_condition nothing = fls
as_condition (expression e) = fls
as_condition (condition c) = c

-- `-` with nothing before it negates; any other computes the difference.
abbrev pub minus : Term → Term → Exp
minus nothing r = neg (as_expression r)
minus (expression e) r = op sub e (as_expression r)
minus (condition c) r = op sub (num (pos 0)) (as_expression r)

-- What a sign makes of its two sides: + - * / compute, < = > compare, && and || join, and ! has its right side alone.
abbrev pub apply : Operator → Term → Term → Term
apply Plus l r = expression (op add (as_expression l) (as_expression r))
apply Minus l r = expression (minus l r)
apply Times l r = expression (op mul (as_expression l) (as_expression r))
apply Over l r = expression (op div (as_expression l) (as_expression r))
apply Less l r = condition (cmp less (as_expression l) (as_expression r))
apply Equal l r = condition (cmp same (as_expression l) (as_expression r))
apply More l r = condition (cmp more (as_expression l) (as_expression r))
apply And l r = condition (con and (as_condition l) (as_condition r))
apply Or l r = condition (con or (as_condition l) (as_condition r))
apply Not l r = condition (non (as_condition r))

-- What an item alone stands for.
abbrev pub atom : Item → Term
atom Open = nothing
atom Close = nothing
atom (Sign o) = nothing
atom (Number n) = expression (num (pos n))
atom (Integer v) = expression (var v)
atom (Attribute k) = expression (att k)
atom (Head v) = expression (head v)
atom (Cell v k) = expression (get v k)
atom (Truth b) = condition (cond b tru fls)
atom (Nil v) = condition (nil v)

-- Parts as trees.
abbrev pub trees : Worth Term
trees = record { blank = nothing; atom = atom; apply = apply }

-- The expression and the condition that begin at an item.
abbrev pub expression_at : List Item → ℕ → Exp
expression_at is n = as_expression (term trees (drop n is)).worth

abbrev pub condition_at : List Item → ℕ → Cond
condition_at is n = as_condition (term trees (drop n is)).worth

-- So many expressions, one behind another.
abbrev pub expressions : ℕ → List Item → List Exp
expressions zero is = []
expressions (suc n) is = as_expression (term trees is).worth ∷ expressions n (term trees is).rest
