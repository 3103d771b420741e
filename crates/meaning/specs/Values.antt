-- Missing values, whole numbers in range and their arithmetic, orders and connectives. Assumes nothing.
use Rattle.std.proofs.Math.Option.{Option, none, some}
use Rattle.std.specs.Prelude.{ℕ, zero, suc, Bool, true, false, cond, not, ◌&&◌, ◌||◌, List, [], ◌∷◌, ℤ, pos, ◌+ℤ◌, ◌-ℤ◌, ◌*ℤ◌, ◌==◌, int_div, int_le, int_lt}
use Rattle.meaning.specs.Limits.{lowest, highest}

-- ---- values that may be missing, functions and lists

-- f of the value; none where there is none
abbrev pub bind : {A B : Type 0} → Option A → (A → Option B) → Option B
bind none f = none
bind (some a) f = f a

-- there is a value
abbrev pub is_some : {A : Type 0} → Option A → Bool
is_some none = false
is_some (some a) = true

-- f with v at x, and what it had everywhere else
abbrev pub put : {A : Type 0} → (ℕ → A) → ℕ → A → ℕ → A
put f x v y = cond (y == x) v (f y)

-- the element at a place counted from 0
abbrev pub nth : {A : Type 0} → List A → ℕ → Option A
nth [] n = none
nth (a ∷ zs) zero = some a
nth (a ∷ zs) (suc n) = nth zs n

-- the element of a number counted from 1
abbrev pub numbered : {A : Type 0} → List A → ℕ → Option A
numbered zs zero = none
numbered zs (suc n) = nth zs n

-- the first element; none of an empty list
abbrev pub first : {A : Type 0} → List A → Option A
first [] = none
first (a ∷ zs) = some a

-- all but the first; none of an empty list
abbrev pub rest : {A : Type 0} → List A → Option (List A)
rest [] = none
rest (a ∷ zs) = some zs

-- the list is empty
abbrev pub is_nil : {A : Type 0} → List A → Bool
is_nil [] = true
is_nil (a ∷ zs) = false

-- some element has p
abbrev pub any : {A : Type 0} → (A → Bool) → List A → Bool
any p [] = false
any p (a ∷ zs) = p a || any p zs

-- every element has p
abbrev pub all : {A : Type 0} → (A → Bool) → List A → Bool
all p [] = true
all p (a ∷ zs) = p a && all p zs

-- whether two truths are the same
abbrev pub same_b : Bool → Bool → Bool
same_b true b = b
same_b false b = not b

-- ---- whole numbers

-- a value is a whole number in range
abbrev pub in_range : ℤ → Bool
in_range z = int_le lowest z && int_le z highest

-- whether two numbers are the same
abbrev pub eq_z : ℤ → ℤ → Bool
eq_z a b = int_le a b && int_le b a

-- + - * /
pub data Op : Type 0 where
  add sub mul div : Op

-- the exact result: division cuts toward zero, and by zero there is none
abbrev pub exact : Op → ℤ → ℤ → Option ℤ
exact add a b = some (a +ℤ b)
exact sub a b = some (a -ℤ b)
exact mul a b = some (a *ℤ b)
exact div a b = cond (eq_z b (pos 0)) none (some (int_div a b))

-- a result in range is a value, and one out of range is none
abbrev pub within : ℤ → Option ℤ
within z = cond (in_range z) (some z) none

-- the arithmetic of the bench: every result is the exact one, brought into range by `within`
abbrev pub operate : Op → ℤ → ℤ → Option ℤ
operate o a b = bind (exact o a b) within

-- `(-e)` is `(0 - e)`
abbrev pub negate : ℤ → Option ℤ
negate a = operate sub (pos 0) a

-- < = >
pub data Order : Type 0 where
  less same more : Order

-- whether two numbers are in that order
abbrev pub compares : Order → ℤ → ℤ → Bool
compares less a b = int_lt a b
compares same a b = eq_z a b
compares more a b = int_lt b a

-- && ||
pub data Connective : Type 0 where
  and or : Connective

-- what a connective makes of two truths
abbrev pub joins : Connective → Bool → Bool → Bool
joins and a b = a && b
joins or a b = a || b

-- both sides of a connective are worked out: where one has no truth, the whole has none
abbrev pub connect : Connective → Option Bool → Option Bool → Option Bool
connect o c d = bind c (λ a. bind d (λ b. some (joins o a b)))
