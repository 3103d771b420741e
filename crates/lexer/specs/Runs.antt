-- Runs of bytes of one sort.
use Rattle.std.specs.Prelude.{ℕ, Bool, true, false, List}
use Rattle.std.specs.List.{prefix_len}
use Rattle.classes.specs.Bytes.{class_of}
use Rattle.classes.specs.declared.Class.{Class}
use Rattle.classes.specs.declared.Class.TheVariants.{Other, Blank, Letter, Digit, Sign, Twin}

-- What a run is made of.
pub data Run : Type 0 where
  Blanks : Run
  Word : Run
  Digits : Run

-- Blanks go on over blanks, a word over letters and digits, and digits over digits.
abbrev pub goes_on : Run → Class → Bool
goes_on Blanks Blank = true
goes_on Blanks Letter = false
goes_on Blanks Digit = false
goes_on Blanks Sign = false
goes_on Blanks Twin = false
goes_on Blanks Other = false
goes_on Word Blank = false
goes_on Word Letter = true
goes_on Word Digit = true
goes_on Word Sign = false
goes_on Word Twin = false
goes_on Word Other = false
goes_on Digits Blank = false
goes_on Digits Letter = false
goes_on Digits Digit = true
goes_on Digits Sign = false
goes_on Digits Twin = false
goes_on Digits Other = false

-- A byte goes on with a run by its class.
abbrev pub goes : Run → ℕ → Bool
goes run b = goes_on run (class_of b)

-- How many bytes at the front the longest run takes.
unfoldable pub reach_of : Run → List ℕ → ℕ
reach_of run bytes = prefix_len (goes run) bytes
