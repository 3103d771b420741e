-- What a line of the console asks for.
use Rattle.std.specs.Prelude.{ℕ, Bool, true, cond, ◌&&◌, List, [], ◌∷◌, length, take, codes, ◌==◌, nat_le}
use Rattle.std.specs.Str.{bytes_eq}
use Rattle.console.specs.declared.Command.{Command}
use Rattle.console.specs.declared.Command.TheVariants.{Pass, Model, Path, Case, CaseHex, Conditions, Judge, Unknown}

-- An empty line, and one that begins with #, is passed over.
abbrev pub passed_over : List ℕ → Bool
passed_over [] = true
passed_over (b ∷ line) = b == 35

-- A line begins with some bytes.
abbrev pub begins_with : List ℕ → List ℕ → Bool
begins_with front line = nat_le (length front) (length line) && bytes_eq (take (length front) line) front

-- The questions on what was set.
abbrev pub question_of : List ℕ → Command
question_of line = cond (bytes_eq line (codes "conditions")) Conditions (cond (bytes_eq line (codes "judge")) Judge Unknown)

-- `path` and `case-hex` have one space and their text behind the word; a block follows `case`.
abbrev pub input_of : List ℕ → Command
input_of line =
    cond (begins_with (codes "path ") line) Path (
    cond (bytes_eq line (codes "case")) Case (
    cond (begins_with (codes "case-hex ") line) CaseHex (
    question_of line)))

-- A command is its word; a line that is none is unknown.
abbrev pub command_of : List ℕ → Command
command_of line = cond (passed_over line) Pass (cond (bytes_eq line (codes "model")) Model (input_of line))
