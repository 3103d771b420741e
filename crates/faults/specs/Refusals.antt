-- What each fault tells. Every contract speaks of refusals through this one definition.
use Rattle.std.specs.Prelude.{ℕ, List, ◌++◌, Some, None, codes, decimal, Option}
use Rattle.faults.specs.declared.Fault.{Fault}
use Rattle.faults.specs.declared.Fault.TheVariants.{ModelTooLong, NoToken, NotAllowed, LimitPassed, WrongName, Circle, BadPath, UnfitMark, TooFew, BadCase, BadLimit, KeyTaken, TableFull, NotThere, ListingShort, Memory}
use Rattle.faults.specs.declared.Refusal.{Refusal}

-- A refusal by its number, its layer and its place.
abbrev pub tells : ℕ → ℕ → ℕ → Option Refusal
tells n l p = Some (record { number = n; layer = l; place = p })

-- Each fault has one number, and the layer that finds it; want of memory is no refusal.
abbrev pub refusal_of : Fault → Option Refusal
refusal_of ModelTooLong = tells 1 1 16384
refusal_of (NoToken p) = tells 2 1 p
refusal_of (NotAllowed p) = tells 3 2 p
refusal_of (LimitPassed p) = tells 4 2 p
refusal_of (WrongName p) = tells 5 2 p
refusal_of (Circle p) = tells 6 2 p
refusal_of (BadPath p) = tells 7 3 p
refusal_of (UnfitMark n) = tells 8 3 n
refusal_of (TooFew n) = tells 9 4 n
refusal_of (BadCase p) = tells 10 5 p
refusal_of (BadLimit n) = tells 11 4 n
refusal_of (KeyTaken t) = tells 12 6 t
refusal_of (TableFull t) = tells 13 6 t
refusal_of (NotThere t) = tells 14 6 t
refusal_of (ListingShort n) = tells 15 4 n
refusal_of Memory = None

-- What the console prints: a refusal by its three numbers; want of memory as an error.
abbrev pub shown_refusal : Option Refusal → List ℕ
shown_refusal None = codes "error: out of memory"
shown_refusal (Some r) = codes "refused " ++ (decimal r.number ++ (codes " " ++ (decimal r.layer ++ (codes " " ++ decimal r.place))))
