-- Expressions and conditions as they are written.
use Rattle.std.specs.Prelude.{◌≡◌, ℕ, suc, max, Bool, true, cond, ◌⊎◌, List, [], ◌∷◌, ◌++◌, Some, None, Option}
use Rattle.lexer.specs.declared.keywords.Keyword.{Keyword}
use Rattle.lexer.specs.declared.keywords.Keyword.TheVariants.{Head, Nil, True, False}
use Rattle.lexer.specs.declared.signs.Sign.{Sign}
use Rattle.lexer.specs.declared.signs.Sign.TheVariants.{Open, Close, Dot, Minus, Not, Equal}
use Rattle.terms.specs.declared.shapes.Shape.{Shape}
use Rattle.terms.specs.declared.shapes.Shape.TheVariants as shape
use Rattle.terms.specs.declared.shapes.Operator.{Operator}
use Rattle.terms.specs.Shapes.{operator_of, sides_of, given_by, serves, inner_of, made_of}

-- A token apart from its place: a name with its bytes, a number with its value, a keyword or a sign.
pub data Token : Type 0 where
  name : List ℕ → Token
  number : ℕ → Token
  keyword : Keyword → Token
  sign : Sign → Token

-- n, v, v.HEAD, v(a), TRUE or FALSE, (v = NIL), (-e) or (!c), and two sides with a sign between them.
pub data Tree : Type 0 where
  literal : ℕ → Tree
  lone : List ℕ → Tree
  head : List ℕ → Tree
  cell : List ℕ → List ℕ → Tree
  truth : Bool → Tree
  is_nil : List ℕ → Tree
  only : Sign → Tree → Tree
  pair : Sign → Tree → Tree → Tree

-- The tokens that a tree is written as.
abbrev pub words_of : Tree → List Token
words_of (literal n) = number n ∷ []
words_of (lone v) = name v ∷ []
words_of (head v) = name v ∷ sign Dot ∷ keyword Head ∷ []
words_of (cell v a) = name v ∷ sign Open ∷ name a ∷ sign Close ∷ []
words_of (truth b) = keyword (cond b True False) ∷ []
words_of (is_nil v) = sign Open ∷ name v ∷ sign Equal ∷ keyword Nil ∷ sign Close ∷ []
words_of (only s t) = sign Open ∷ sign s ∷ words_of t ++ (sign Close ∷ [])
words_of (pair s l r) = sign Open ∷ words_of l ++ (sign s ∷ words_of r ++ (sign Close ∷ []))

-- What an operator gives; any other sign gives nothing, and stands between no two sides.
abbrev pub given_in : Option Operator → Shape
given_in None = shape.Truth
given_in (Some o) = given_by o

-- A lone name, any other expression, or a condition.
abbrev pub shape_of : Tree → Shape
shape_of (literal n) = shape.Value
shape_of (lone v) = shape.Name
shape_of (head v) = shape.Value
shape_of (cell v a) = shape.Value
shape_of (truth b) = shape.Truth
shape_of (is_nil v) = shape.Truth
shape_of (only s t) = made_of s
shape_of (pair s l r) = given_in (operator_of s)

-- Each sign has the sides that it takes.
abbrev pub Sound : Tree → Type 0
Sound (literal n) = Unit {0}
Sound (lone v) = Unit {0}
Sound (head v) = Unit {0}
Sound (cell v a) = Unit {0}
Sound (truth b) = Unit {0}
Sound (is_nil v) = Unit {0}
Sound (only s t) = ((s ≡ Minus) ⊎ (s ≡ Not)) × (serves (inner_of s) (shape_of t) ≡ true) × Sound t
Sound (pair s l r) = (o : Operator) × (operator_of s ≡ Some o) × (serves (sides_of o) (shape_of l) ≡ true) × (serves (sides_of o) (shape_of r) ≡ true) × Sound l × Sound r

-- How many brackets stand one in another; those of v(a) do not count.
abbrev pub depth_of : Tree → ℕ
depth_of (literal n) = 0
depth_of (lone v) = 0
depth_of (head v) = 0
depth_of (cell v a) = 0
depth_of (truth b) = 0
depth_of (is_nil v) = 1
depth_of (only s t) = suc (depth_of t)
depth_of (pair s l r) = suc (max (depth_of l) (depth_of r))
