-- A whole as what is done so far, glued to what is yet to come: for the invariants of loops over rows, records, references and blocks. Assumes nothing.
use Rattle.std.proofs.Math.Option.{Option, none, some}
use Rattle.std.specs.Prelude.{ℕ, zero, suc, ◌+◌, Bool, true, false, cond, ◌&&◌, ◌||◌, List, [], ◌∷◌, ◌++◌, ℤ, int_lt}
use Rattle.meaning.specs.Values.{bind, is_some, all}
use Rattle.meaning.specs.Syntax.{silent, Block, stop, ◌⨾◌, ◌then◌, next, write, branch, while}
use Rattle.meaning.specs.Evaluation.{attr}
use Rattle.meaning.specs.Tables.{Table}
use Rattle.meaning.specs.Conditions.{Drawn, later}

-- ---- rows

-- what was gathered, and then what is yet to come
abbrev pub sofar : {A : Type 0} → List A → Option (List A) → Option (List A)
sofar done more = bind more (λ rest. some (done ++ rest))

-- held by a row so far, or by one that is yet to come
abbrev pub held_sofar : Bool → Option Bool → Option Bool
held_sofar h more = bind more (λ rest. some (h || rest))

-- a clause has a value for each row
abbrev pub told : {A B : Type 0} → (A → Option B) → List A → Bool
told c T = all (λ r. is_some (c r)) T

-- a clause chooses the row
abbrev pub chosen : Option Bool → Bool
chosen none = false
chosen (some b) = b

-- the rows that a clause does not choose
abbrev pub unchosen : {A : Type 0} → (A → Option Bool) → List A → List A
unchosen c [] = []
unchosen c (r ∷ rs) = cond (chosen (c r)) (unchosen c rs) (r ∷ unchosen c rs)

-- what f makes of each, in the old order
abbrev pub each : {A B : Type 0} → (A → Option B) → List A → Option (List B)
each f [] = some []
each f (r ∷ rs) = bind (f r) (λ q. bind (each f rs) (λ qs. some (q ∷ qs)))

-- the place of a key: how many of the first rows have keys below it
abbrev pub place : ℕ → ℤ → Table → ℕ
place k z [] = 0
place k z (r ∷ rs) = cond (int_lt (attr r k) z) (suc (place k z rs)) 0

-- the keys rise from row to row
abbrev pub rising : ℕ → Table → Bool
rising k [] = true
rising k (r ∷ rs) = all (λ q. int_lt (attr r k) (attr q k)) rs && rising k rs

-- ---- records

-- what follows n marks
abbrev pub laters : ℕ → Drawn → Drawn
laters zero d = d
laters (suc n) d = laters n (later d)

-- a place, i further on
abbrev pub place_on : ℕ → Option ℕ → Option ℕ
place_on i none = none
place_on i (some k) = some (k + i)

-- ---- blocks

-- open blocks: what is left of each, the innermost first
abbrev pub flat : List Block → Block
flat [] = stop
flat (b ∷ bs) = b then flat bs

-- how many silent statements come before the next that makes a mark
abbrev pub until_mark : Block → ℕ
until_mark stop = 0
until_mark (silent x ⨾ k) = suc (until_mark k)
until_mark (next v h ⨾ k) = 0
until_mark (write w h ⨾ k) = 0
until_mark (branch c x y ⨾ k) = 0
until_mark (while c x ⨾ k) = 0
