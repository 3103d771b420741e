-- The eleven letters of the marks, and the number that F, C and D carry; how a mark is written, and read. Assumes nothing.
use Rattle.std.proofs.Math.Option.{Option, none, some}
use Rattle.std.specs.Prelude.{ℕ, true, false}
use Rattle.meaning.specs.Syntax.{Exception, Mark}

-- the letters
pub data Letter : Type 0 where
  T E L O N X W K F C D : Letter

-- a mark as it is written
pub record Written : Type 0 where
  pub letter : Letter
  pub number : Option ℕ

-- a letter without a number
abbrev pub plain : Letter → Written
plain x = record { letter = x; number = none }

-- a letter with its number
abbrev pub carrying : Letter → ℕ → Written
carrying x n = record { letter = x; number = some n }

-- K, F n, C n, D n
abbrev pub exception_letter : Exception → Written
exception_letter Exception.K = plain K
exception_letter (Exception.F n) = carrying F n
exception_letter (Exception.C n) = carrying C n
exception_letter (Exception.D n) = carrying D n

-- IF makes T or E; WHILE L or O; NEXT N or X; a write W or its exception
abbrev pub letters : Mark → Written
letters (Mark.branched true) = plain T
letters (Mark.branched false) = plain E
letters (Mark.turned true) = plain L
letters (Mark.turned false) = plain O
letters (Mark.fetched true) = plain N
letters (Mark.fetched false) = plain X
letters (Mark.wrote none) = plain W
letters (Mark.wrote (some x)) = exception_letter x

-- a mark without a number
abbrev pub bare : Mark → Option ℕ → Option Mark
bare m none = some m
bare m (some n) = none

-- an exception with its number, of which any is well formed
abbrev pub excepting : (ℕ → Exception) → Option ℕ → Option Mark
excepting f none = none
excepting f (some n) = some (Mark.wrote (some (f n)))

-- the mark that a letter and the number behind it, if any, are read as
abbrev pub mark_of : Letter → Option ℕ → Option Mark
mark_of T = bare (Mark.branched true)
mark_of E = bare (Mark.branched false)
mark_of L = bare (Mark.turned true)
mark_of O = bare (Mark.turned false)
mark_of N = bare (Mark.fetched true)
mark_of X = bare (Mark.fetched false)
mark_of W = bare (Mark.wrote none)
mark_of K = bare (Mark.wrote (some Exception.K))
mark_of F = excepting Exception.F
mark_of C = excepting Exception.C
mark_of D = excepting Exception.D
