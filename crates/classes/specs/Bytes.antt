-- The class of a byte of a model text, as a rule.
use Rattle.std.specs.Prelude.{Bool, false, cond, ◌||◌, ◌&&◌, List, [], ◌∷◌, ℕ, codes, nat_le, nat_eq}
use Rattle.classes.specs.declared.Class.{Class}
use Rattle.classes.specs.declared.Class.TheVariants.{Other, Blank, Letter, Digit, Sign, Twin}

-- A byte is one of those listed.
abbrev pub one_of : List ℕ → ℕ → Bool
one_of [] b = false
one_of (x ∷ xs) b = nat_eq b x || one_of xs b

-- A byte lies between two, both included.
abbrev pub within : ℕ → ℕ → ℕ → Bool
within low high b = nat_le low b && nat_le b high

-- Blanks are the space, the tab and the line ends (line feed and carriage return).
abbrev pub is_blank : ℕ → Bool
is_blank b = one_of (32 ∷ 9 ∷ 10 ∷ 13 ∷ []) b

-- Letters are A to Z and a to z.
abbrev pub is_letter : ℕ → Bool
is_letter b = within 65 90 b || within 97 122 b

-- Digits are 0 to 9.
abbrev pub is_digit : ℕ → Bool
is_digit b = within 48 57 b

-- Signs of one byte.
abbrev pub is_sign : ℕ → Bool
is_sign b = one_of (codes "!()*+,-./;<=>") b

-- Two of these in a row are one sign; alone each is no token.
abbrev pub is_twin : ℕ → Bool
is_twin b = one_of (codes "&|") b

-- Every byte has one class; what is none of the above is no part of a token.
abbrev pub class_of : ℕ → Class
class_of b =
    cond (is_blank b) Blank (
    cond (is_letter b) Letter (
    cond (is_digit b) Digit (
    cond (is_sign b) Sign (
    cond (is_twin b) Twin Other))))
