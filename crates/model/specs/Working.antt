-- What items come to when they are worked out one by one.
use Rattle.std.proofs.Math.Option.{Option, some}
use Rattle.std.specs.Prelude.{ℕ, Bool, false, not, ℤ, pos}
use Rattle.meaning.specs.Values.{bind, first, is_nil, Op, add, sub, mul, div, operate, Order, less, same, more, compares, Connective, and, or, connect}
use Rattle.meaning.specs.Evaluation.{Env, Row, attr}
use Rattle.model.specs.declared.program.Operator.{Operator}
use Rattle.model.specs.declared.program.Operator.TheVariants.{Plus, Minus, Times, Over, Less, Equal, More, And, Or, Not}
use Rattle.model.specs.declared.program.Item.{Item}
use Rattle.model.specs.declared.program.Item.TheVariants.{Open, Close, Sign, Number, Integer, Attribute, Head, Cell, Truth, Nil}
use Rattle.model.specs.Machine.{Worth}

-- A number or a fact, which may be missing.
pub data Worked : Type 0 where
  number : Option ℤ → Worked
  fact : Option Bool → Worked

-- As a number: a fact stands for 0.
abbrev pub as_number : Worked → Option ℤ
as_number (number v) = v
as_number (fact v) = some (pos 0)

-- As a fact: a number stands for FALSE.
abbrev pub as_fact : Worked → Option Bool
as_fact (number v) = some false
as_fact (fact v) = v

-- A sign of two numbers that makes a number.
abbrev pub computed : Op → Worked → Worked → Worked
computed o l r = number (bind (as_number l) (λ a. bind (as_number r) (λ b. operate o a b)))

-- A sign that compares two numbers.
abbrev pub compared : Order → Worked → Worked → Worked
compared o l r = fact (bind (as_number l) (λ a. bind (as_number r) (λ b. some (compares o a b))))

-- A sign that joins two facts.
abbrev pub joined : Connective → Worked → Worked → Worked
joined o l r = fact (connect o (as_fact l) (as_fact r))

-- What a sign makes of its sides; `(-e)` is `(0 - e)`, and `!` has its right side alone.
abbrev pub combined : Operator → Worked → Worked → Worked
combined Plus l r = computed add l r
combined Minus l r = computed sub l r
combined Times l r = computed mul l r
combined Over l r = computed div l r
combined Less l r = compared less l r
combined Equal l r = compared same l r
combined More l r = compared more l r
combined And l r = joined and l r
combined Or l r = joined or l r
combined Not l r = fact (bind (as_fact r) (λ a. some (not a)))

-- Nothing yet is 0.
abbrev pub unset : Worked
unset = number (some (pos 0))

-- What an item alone comes to, with the row at hand if any.
abbrev pub single : Env ℕ ℕ ℕ → Option Row → Item → Worked
single η r Open = unset
single η r Close = unset
single η r (Sign o) = unset
single η r (Number n) = number (some (pos n))
single η r (Integer v) = number (some (η.int v))
single η r (Attribute k) = number (bind r (λ a. some (attr a k)))
single η r (Head v) = number (first (η.list v))
single η r (Cell v k) = number (bind (η.row v) (λ a. some (attr a k)))
single η r (Truth b) = fact (some b)
single η r (Nil v) = fact (some (is_nil (η.list v)))

-- Parts as what they come to.
abbrev pub worths : Env ℕ ℕ ℕ → Option Row → Worth Worked
worths η r = record { blank = unset; atom = single η r; apply = combined }
