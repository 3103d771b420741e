-- What operators take and give.
use Rattle.std.specs.Prelude.{Bool, true, false, cond, ◌&&◌, Some, None, Option, ◌==◌}
use Rattle.lexer.specs.declared.signs.Sign.{Sign}
use Rattle.lexer.specs.declared.signs.Sign.TheVariants.{Not, Open, Close, Times, Plus, Comma, Minus, Dot, Over, Semicolon, Less, Equal, More, And, Or}
use Rattle.terms.specs.declared.shapes.Shape.{Shape}
use Rattle.terms.specs.declared.shapes.Shape.TheVariants as shape
use Rattle.terms.specs.declared.shapes.Want.{Want}
use Rattle.terms.specs.declared.shapes.Want.TheVariants as want
use Rattle.terms.specs.declared.shapes.Operator.{Operator}
use Rattle.terms.specs.declared.shapes.Operator.TheVariants.{Computes, Compares, Joins}
use Rattle.terms.specs.Pull.{sign_number}

-- + - * / compute, < = > compare, && and || join; no other sign is an operator with two sides.
abbrev pub operator_of : Sign → Option Operator
operator_of Plus = Some Computes
operator_of Minus = Some Computes
operator_of Times = Some Computes
operator_of Over = Some Computes
operator_of Less = Some Compares
operator_of Equal = Some Compares
operator_of More = Some Compares
operator_of And = Some Joins
operator_of Or = Some Joins
operator_of Not = None
operator_of Open = None
operator_of Close = None
operator_of Comma = None
operator_of Dot = None
operator_of Semicolon = None

-- Expressions are computed and compared, conditions are joined.
abbrev pub sides_of : Operator → Want
sides_of Computes = want.Value
sides_of Compares = want.Value
sides_of Joins = want.Truth

-- Computing gives an expression, comparing and joining a condition.
abbrev pub given_by : Operator → Shape
given_by Computes = shape.Value
given_by Compares = shape.Truth
given_by Joins = shape.Truth

-- A lone name and any other expression is a value, a condition is a truth.
abbrev pub serves : Want → Shape → Bool
serves want.Value shape.Name = true
serves want.Value shape.Value = true
serves want.Value shape.Truth = false
serves want.Truth shape.Name = false
serves want.Truth shape.Value = false
serves want.Truth shape.Truth = true
serves want.Either shape.Name = true
serves want.Either shape.Value = true
serves want.Either shape.Truth = true

-- The left side of a bracket that is a value is a value; otherwise it stays open.
abbrev pub left_side : Want → Want
left_side want.Value = want.Value
left_side want.Truth = want.Either
left_side want.Either = want.Either

-- An operator may stand behind a left side where the side is one of its own and what it gives is asked for.
abbrev pub takes : Want → Shape → Operator → Bool
takes w left o = serves (sides_of o) left && serves w (given_by o)

-- (-e) is an expression over an expression, (!c) a condition over a condition.
abbrev pub inner_of : Sign → Want
inner_of s = cond (sign_number s == sign_number Minus) want.Value want.Truth

abbrev pub made_of : Sign → Shape
made_of s = cond (sign_number s == sign_number Minus) shape.Value shape.Truth
