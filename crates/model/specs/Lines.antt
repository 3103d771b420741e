-- Statements counted in text order.
use Rattle.std.specs.Prelude.{◌≡◌, ℕ, Bool, true, false, List, count_by, Option}
use Rattle.meaning.specs.Schema.{places}
use Rattle.model.specs.declared.program.Line.{Line}
use Rattle.model.specs.declared.program.Line.TheVariants.{Assign, Clear, Tail, Read, Load, Select, Next, Insert, Update, Delete, Commit, Rollback, If, While, End}
use Rattle.model.specs.Names.{by_number}

-- A line is a statement unless it ends a block.
abbrev pub is_statement : Line → Bool
is_statement (Assign v e) = true
is_statement (Clear v) = true
is_statement (Tail v w) = true
is_statement (Read v) = true
is_statement (Load v) = true
is_statement (Select v t c) = true
is_statement (Next v h) = true
is_statement (Insert t e n h) = true
is_statement (Update t k e c h) = true
is_statement (Delete t c h) = true
is_statement Commit = true
is_statement Rollback = true
is_statement (If c other n) = true
is_statement (While c n) = true
is_statement End = false

-- How many statements there are.
abbrev pub statements : List Line → ℕ
statements ls = count_by is_statement ls

-- A line is an UPDATE, caught or not.
abbrev pub is_update : Line → Bool
is_update (Update t k e c h) = true
is_update _ = false

-- A line is a DELETE, caught or not.
abbrev pub is_delete : Line → Bool
is_delete (Delete t c h) = true
is_delete _ = false

-- What is said of each line is whether p picks it.
abbrev pub Picks : (Line → Bool → Type 0) → (Line → Bool) → Type 0
Picks said p = (l : Line) (b : Bool) → said l b → b ≡ p l

-- The place of the n-th line that p picks, counted from 1 in text order.
abbrev pub nth_line : (Line → Bool) → List Line → ℕ → Option ℕ
nth_line p ls n = by_number (places p 0 ls) n
