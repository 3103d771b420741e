-- Reading at one worth and taking the answer to another is reading at the other.
use Rattle.std.proofs.Common.{◌≡◌, Bool, true, false, cond, ltb, List, [], ◌∷◌, map, length, Some, None, Option, sym, refl, ap, ◌∙◌}
use Rattle.std.proofs.lemmas.List.{length-map}
use Rattle.model.specs.declared.program.Operator.{Operator}
use Rattle.model.specs.declared.program.Item.{Item}
use Rattle.model.specs.declared.program.Item.TheVariants.{Open, Close, Sign, Number, Integer, Attribute, Head, Cell, Truth, Nil}
use Rattle.model.specs.Machine.{Worth, Bracket, State, Read, at, opened, signed, applied, closed, step, ended, run, term}

-- f takes what parts are worth to what they are worth elsewhere.
pub record Maps {V W : Type 0} (v : Worth V) (w : Worth W) (f : V → W) : Type 0 where
  pub blank : f v.blank ≡ w.blank
  pub atom : (i : Item) → f (v.atom i) ≡ w.atom i
  pub apply : (o : Operator) (l r : V) → f (v.apply o l r) ≡ w.apply o (f l) (f r)

-- The worth of what is read, taken by f.
abbrev pub map_read : {V W : Type 0} → (V → W) → Read V → Read W
map_read f r = record { worth = f r.worth; rest = r.rest }

module _ {V W : Type 0} (v : Worth V) (w : Worth W) (f : V → W) (maps : Maps v w f) where
  abbrev map_bracket : Bracket V → Bracket W
  map_bracket b = record { sign = b.sign; left = f b.left }

  abbrev map_state : State V → State W
  map_state s = at (map map_bracket s.brackets) (f s.hand)

  map_cond : (b : Bool) (s t : State V) → map_state (cond b s t) ≡ cond b (map_state s) (map_state t)
  map_cond true s t = refl
  map_cond false s t = refl

  map_opened : (bs : List (Bracket V)) → map_state (opened v bs) ≡ opened w (map map_bracket bs)
  map_opened bs =
      map_cond (ltb (length bs) 12) _ _
      ∙ (λ i. cond (ltb (sym (length-map bs map_bracket) i) 12) (at (record { sign = None; left = maps.blank i } ∷ map map_bracket bs) (maps.blank i)) (at [] (maps.blank i)))

  map_signed : (bs : List (Bracket V)) (h : V) (o : Operator) → map_state (signed v bs h o) ≡ signed w (map map_bracket bs) (f h) o
  map_signed [] h o = refl
  map_signed (b ∷ bs) h o = ap (at (record { sign = Some o; left = f h } ∷ map map_bracket bs)) maps.blank

  map_applied : (o : Option Operator) (l h : V) → f (applied v o l h) ≡ applied w o (f l) (f h)
  map_applied None l h = refl
  map_applied (Some o) l h = maps.apply o l h

  map_closed : (bs : List (Bracket V)) (h : V) → map_state (closed v bs h) ≡ closed w (map map_bracket bs) (f h)
  map_closed [] h = refl
  map_closed (b ∷ bs) h = ap (at (map map_bracket bs)) (map_applied b.sign b.left h)

  map_atom : (bs : List (Bracket V)) (i : Item) → map_state (at bs (v.atom i)) ≡ at (map map_bracket bs) (w.atom i)
  map_atom bs i = ap (at (map map_bracket bs)) (maps.atom i)

  map_step : (s : State V) (i : Item) → map_state (step v s i) ≡ step w (map_state s) i
  map_step s Open = map_opened s.brackets
  map_step s Close = map_closed s.brackets s.hand
  map_step s (Sign o) = map_signed s.brackets s.hand o
  map_step s (Number n) = map_atom s.brackets (Number n)
  map_step s (Integer n) = map_atom s.brackets (Integer n)
  map_step s (Attribute k) = map_atom s.brackets (Attribute k)
  map_step s (Head n) = map_atom s.brackets (Head n)
  map_step s (Cell n k) = map_atom s.brackets (Cell n k)
  map_step s (Truth b) = map_atom s.brackets (Truth b)
  map_step s (Nil n) = map_atom s.brackets (Nil n)

  map_ended : (bs : List (Bracket V)) (h : V) (is : List Item) (r : Read V) → map_read f (ended v (at bs h) is r) ≡ ended w (map_state (at bs h)) is (map_read f r)
  map_ended [] h is r = refl
  map_ended (b ∷ bs) h is r = refl

  pub map_run : (s : State V) (is : List Item) → map_read f (run v s is) ≡ run w (map_state s) is
  map_run s [] = refl
  map_run s (i ∷ is) =
      map_ended (step v s i).brackets (step v s i).hand is (run v (step v s i) is)
      ∙ ap (ended w (map_state (step v s i)) is) (map_run (step v s i) is)
      ∙ ap (λ t. ended w t is (run w t is)) (map_step s i)

  -- Of any items, reading at one worth and taking the answer is reading at the other.
  pub reads_alike : (is : List Item) → map_read f (term v is) ≡ term w is
  reads_alike is = map_run (at [] v.blank) is ∙ ap (λ b. run w (at [] b) is) maps.blank
