-- Names that are written alike.
use Rattle.std.specs.Prelude.{ℕ, Bool, List, Option, position}
use Rattle.std.specs.Str.{bytes_eq}
use Rattle.lexer.specs.declared.name.Name.{Name}
use Rattle.lexer.specs.Names.{spelled}

-- Two names are written alike; capitals and small letters differ.
abbrev pub same_name : List ℕ → Name → Name → Bool
same_name text a b = bytes_eq (spelled text a) (spelled text b)

-- The place, from 0, of the first name among these that is written alike.
abbrev pub place_among : List ℕ → List Name → Name → Option ℕ
place_among text ns n = position (λ a. same_name text a n) ns
