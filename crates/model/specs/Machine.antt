-- Items read from left to right with the open brackets on a stack, whatever the worth of a part may be: a tree, or the value that it comes to.
use Rattle.std.specs.Prelude.{cond, List, [], ◌∷◌, length, Some, None, Option, nat_lt}
use Rattle.model.specs.declared.program.Operator.{Operator}
use Rattle.model.specs.declared.program.Item.{Item}
use Rattle.model.specs.declared.program.Item.TheVariants.{Open, Close, Sign, Number, Integer, Attribute, Head, Cell, Truth, Nil}

-- What parts are worth: where nothing stands yet, an item alone, and a sign with what stands before and behind it.
pub record Worth (W : Type 0) : Type 0 where
  pub blank : W
  pub atom : Item → W
  pub apply : Operator → W → W → W

-- An open bracket: its sign where it is met, and what stands before it.
pub record Bracket (W : Type 0) : Type 0 where
  pub sign : Option Operator
  pub left : W

-- The open brackets, the newest first, and the part at hand.
pub record State (W : Type 0) : Type 0 where
  pub brackets : List (Bracket W)
  pub hand : W

-- What a term is worth, and the items behind it.
pub record Read (W : Type 0) : Type 0 where
  pub worth : W
  pub rest : List Item

abbrev pub at : {W : Type 0} → List (Bracket W) → W → State W
at bs h = record { brackets = bs; hand = h }

module _ {W : Type 0} (w : Worth W) where
  -- A bracket opens with no sign and nothing at hand. At most 12 are open: at one more, reading ends.
  abbrev pub opened : List (Bracket W) → State W
  opened bs = cond (nat_lt (length bs) 12) (at (record { sign = None; left = w.blank } ∷ bs) w.blank) (at [] w.blank)

  -- A sign takes the part at hand as what stands before it.
  abbrev pub signed : List (Bracket W) → W → Operator → State W
  signed [] h o = at [] h
  signed (b ∷ bs) h o = at (record { sign = Some o; left = h } ∷ bs) w.blank

  -- A bracket without a sign is worth what stands in it.
  abbrev pub applied : Option Operator → W → W → W
  applied None l h = h
  applied (Some o) l h = w.apply o l h

  abbrev pub closed : List (Bracket W) → W → State W
  closed [] h = at [] h
  closed (b ∷ bs) h = at bs (applied b.sign b.left h)

  abbrev pub step : State W → Item → State W
  step s Open = opened s.brackets
  step s Close = closed s.brackets s.hand
  step s (Sign o) = signed s.brackets s.hand o
  step s (Number n) = at s.brackets (w.atom (Number n))
  step s (Integer v) = at s.brackets (w.atom (Integer v))
  step s (Attribute k) = at s.brackets (w.atom (Attribute k))
  step s (Head v) = at s.brackets (w.atom (Head v))
  step s (Cell v k) = at s.brackets (w.atom (Cell v k))
  step s (Truth b) = at s.brackets (w.atom (Truth b))
  step s (Nil v) = at s.brackets (w.atom (Nil v))

  -- A term ends where no bracket is open; as long as one is, what follows is read.
  abbrev pub ended : State W → List Item → Read W → Read W
  ended s is more = elim s.brackets [ [] ↦ record { worth = s.hand; rest = is } | ◌∷◌ b bs ↦ more ]

  abbrev pub run : State W → List Item → Read W
  run s [] = record { worth = s.hand; rest = [] }
  run s (i ∷ is) = ended (step s i) is (run (step s i) is)

  -- The term that items begin with.
  abbrev pub term : List Item → Read W
  term is = run (at [] w.blank) is
