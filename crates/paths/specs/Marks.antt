-- The marks that the code holds, and the marks that they stand for.
use Rattle.std.proofs.Math.Option.{none, some}
use Rattle.std.specs.Prelude.{ℕ, ◌≤◌, min, true, false, List, [], ◌∷◌}
use Rattle.meaning.specs.Syntax.{Exception, Mark, branched, turned, fetched, wrote}
use Rattle.paths.specs.declared.mark.Mark.{Mark as HeldMark}
use Rattle.paths.specs.declared.mark.Mark.TheVariants as variant

-- A mark as runs and conditions know it.
abbrev pub Meant : Type 0
Meant = Mark

-- A mark as the code holds it.
abbrev pub Held : Type 0
Held = HeldMark

-- The mark that a held one stands for.
abbrev pub mark_of : Held → Meant
mark_of variant.T = branched true
mark_of variant.E = branched false
mark_of variant.L = turned true
mark_of variant.O = turned false
mark_of variant.N = fetched true
mark_of variant.X = fetched false
mark_of variant.W = wrote none
mark_of variant.K = wrote (some Exception.K)
mark_of (variant.F n) = wrote (some (Exception.F n))
mark_of (variant.C n) = wrote (some (Exception.C n))
mark_of (variant.D n) = wrote (some (Exception.D n))

-- A number from 1,000,000 on is held as 1,000,000: no reference and no check has such a number.
abbrev pub held_number : ℕ → ℕ
held_number n = min n 1000000

-- An exception's mark as it is held.
abbrev pub held_exception : Exception → Held
held_exception Exception.K = variant.K
held_exception (Exception.F n) = variant.F (held_number n)
held_exception (Exception.C n) = variant.C (held_number n)
held_exception (Exception.D n) = variant.D (held_number n)

-- How a mark is held.
abbrev pub held : Meant → Held
held (branched true) = variant.T
held (branched false) = variant.E
held (turned true) = variant.L
held (turned false) = variant.O
held (fetched true) = variant.N
held (fetched false) = variant.X
held (wrote none) = variant.W
held (wrote (some x)) = held_exception x

-- A mark whose number, if it carries one, is held as it is.
abbrev pub Exact : Held → Type 0
Exact variant.T = Unit {0}
Exact variant.E = Unit {0}
Exact variant.L = Unit {0}
Exact variant.O = Unit {0}
Exact variant.N = Unit {0}
Exact variant.X = Unit {0}
Exact variant.W = Unit {0}
Exact variant.K = Unit {0}
Exact (variant.F n) = n ≤ 1000000
Exact (variant.C n) = n ≤ 1000000
Exact (variant.D n) = n ≤ 1000000

-- All of some marks are.
abbrev pub AllExact : List Held → Type 0
AllExact [] = Unit {0}
AllExact (h ∷ hs) = Exact h × AllExact hs
