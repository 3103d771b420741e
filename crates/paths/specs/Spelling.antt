-- How marks are written.
use Rattle.std.proofs.Math.Option.{Option, none, some}
use Rattle.std.specs.Prelude.{ℕ, zero, suc, ◌+◌, Bool, not, List, [], ◌∷◌, ◌++◌, map, take, ◌==◌}
use Rattle.std.specs.Int.Digits.{digits_of}
use Rattle.std.specs.List.{prefix_len}
use Rattle.meaning.specs.Letters as letter
use Rattle.meaning.specs.Letters.{Letter, letters}
use Rattle.paths.specs.Marks.{Meant}

-- The byte of each letter.
abbrev pub code_of : Letter → ℕ
code_of letter.T = 84
code_of letter.E = 69
code_of letter.L = 76
code_of letter.O = 79
code_of letter.N = 78
code_of letter.X = 88
code_of letter.W = 87
code_of letter.K = 75
code_of letter.F = 70
code_of letter.C = 67
code_of letter.D = 68

-- A number in decimal without leading zero.
abbrev pub numeral : ℕ → List ℕ
numeral zero = 48 ∷ []
numeral (suc n) = map (λ d. 48 + d) (digits_of 10 (suc n))

-- The number behind a letter, where it carries one.
abbrev pub behind : Option ℕ → List ℕ
behind none = []
behind (some n) = numeral n

-- A mark is its letter and the number that it carries.
abbrev pub spell : Meant → List ℕ
spell m = code_of (letters m).letter ∷ behind (letters m).number

-- Further marks of a path, each behind a space.
abbrev pub further : List Meant → List ℕ
further [] = []
further (m ∷ ms) = 32 ∷ (spell m ++ further ms)

-- Marks are parted by one space.
abbrev pub spelled : List Meant → List ℕ
spelled [] = []
spelled (m ∷ ms) = spell m ++ further ms

-- Marks with a space behind each: what stands before a further mark.
abbrev pub opening : List Meant → List ℕ
opening [] = []
opening (m ∷ ms) = spell m ++ (32 ∷ opening ms)

-- A newline ends the path.
abbrev pub in_line : ℕ → Bool
in_line b = not (b == 10)

-- The bytes of a text that are read: those before its first newline, or all.
unfoldable pub line_of : List ℕ → List ℕ
line_of text = take (prefix_len in_line text) text
