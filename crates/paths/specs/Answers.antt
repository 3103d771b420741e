-- What reading a path answers.
use Rattle.std.specs.Prelude.{◌≡◌, ℕ, ◌+◌, ◌<◌, ◌≤◌, ◌⊎◌, List, ◌++◌, map, length, take, Ok, Err, vec_items, Result}
use Rattle.std.specs.Global.{Vec}
use Rattle.faults.specs.declared.Fault.{Fault}
use Rattle.faults.specs.declared.Fault.TheVariants.{BadPath, Memory}
use Rattle.meaning.specs.Limits.{longest_path}
use Rattle.paths.specs.Marks.{Meant, Held, held}
use Rattle.paths.specs.Spelling.{spelled, opening}

-- A line is the path of these marks: at most 512, and it spells them.
abbrev pub Path : List ℕ → List Meant → Type 0
Path line ms = (length ms ≤ longest_path) × (line ≡ spelled ms)

-- A path can begin with these bytes: they are the front of at most 512 marks with a space behind each.
abbrev pub Front : List ℕ → Type 0
Front s = (ms : List Meant) × (t : List ℕ) × (length ms ≤ longest_path) × (s ++ t ≡ opening ms)

-- The first place of a line at which no path can go on, or its end where it is no path.
pub record Breaks (line : List ℕ) (place : ℕ) : Type 0 where
  pub within : place ≤ length line
  pub before : Front (take place line)
  pub there : place < length line → Front (take (place + 1) line) → ⊥
  pub ended : place ≡ length line → (ms : List Meant) → Path line ms → ⊥

-- A line that is a path gives its marks as they are held; another is refused where it breaks.
-- Want of memory tells nothing of the line.
abbrev pub LineAnswers : List ℕ → Result (List Held) Fault → Type 0
LineAnswers line (Ok hs) = (ms : List Meant) × Path line ms × (hs ≡ map held ms)
LineAnswers line (Err f) = (f ≡ Memory) ⊎ ((place : ℕ) × (f ≡ BadPath place) × Breaks line place)

-- What the code answers, apart from its memory.
abbrev pub marks_read : Result (Vec Held) Fault → Result (List Held) Fault
marks_read (Ok v) = Ok (vec_items v)
marks_read (Err f) = Err f
