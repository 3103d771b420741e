-- What the names of a text stand for, by the bytes that they are written with.
use Rattle.std.specs.Prelude.{ℕ, Bool, List, map, is_some, Option, option_and_then, position}
use Rattle.std.specs.Option.{unwrap_or}
use Rattle.std.specs.Str.{bytes_eq}
use Rattle.lexer.specs.declared.name.Name.{Name}
use Rattle.lexer.specs.Names.{spelled}
use Rattle.names.specs.declared.scope.Choice.{Choice}
use Rattle.names.specs.Schema.{Decl, counted, fields_of}
use Rattle.names.specs.Binding.{Names, choice_at}
use Rattle.model.specs.Elaborate.{Dictionary}
use Rattle.dictionary.specs.declared.TableNames.{TableNames}

-- The bytes of a name.
abbrev pub written : TableNames → Name → List ℕ
written s n = spelled s.schema.text.now n

-- The place of the first of some words that is written with these bytes.
abbrev pub word_place : List (List ℕ) → List ℕ → Option ℕ
word_place ws b = position (λ w. bytes_eq w b) ws

-- A table by its number from 1.
abbrev pub table_found : Decl → List ℕ → Option ℕ
table_found d b = counted (word_place (map (λ t. spelled d.text t.title) d.tables) b)

-- The same number, 0 for none.
abbrev pub table_by : Decl → List ℕ → ℕ
table_by d b = unwrap_or (table_found d b) 0

-- An attribute by its place in a table.
abbrev pub field_by : Decl → ℕ → List ℕ → Option ℕ
field_by d t b = word_place (map (spelled d.text) (fields_of d t)) b

abbrev pub place_by : Decl → ℕ → List ℕ → ℕ
place_by d t b = unwrap_or (field_by d t b) 0

-- In a clause of a table its attributes hide lone variables.
abbrev pub hides_by : Decl → ℕ → List ℕ → Bool
hides_by d t b = is_some (field_by d t b)

-- A variable by its number from 0, in the order of first use.
abbrev pub variable_in : List ℕ → Names → List ℕ → Option ℕ
variable_in text s b = word_place (map (λ v. spelled text v.name) s.variables) b

abbrev pub variable_found : Decl → Names → List ℕ → Option ℕ
variable_found d s b = variable_in d.text s b

abbrev pub variable_by : Decl → Names → List ℕ → ℕ
variable_by d s b = unwrap_or (variable_found d s b) 0

-- What the first SELECT into a variable chooses.
abbrev pub choice_by : Decl → Names → List ℕ → Option Choice
choice_by d s b = choice_at s.variables (variable_by d s b)

-- The attribute of v(a) is one of the table that v is selected from.
abbrev pub cell_in : Decl → Option Choice → List ℕ → Option ℕ
cell_in d c b = option_and_then (λ t. field_by d t b) (option_and_then (λ (e : Choice). e.table) c)

abbrev pub cell_by : Decl → Names → List ℕ → List ℕ → ℕ
cell_by d s v b = unwrap_or (cell_in d (choice_by d s v) b) 0

-- The dictionary of a text: its tables as declared, and its variables as bound.
abbrev pub dictionary_of : Decl → Names → Dictionary
dictionary_of d s = record {
  table = table_by d;
  place = place_by d;
  hides = hides_by d;
  variable = variable_by d s;
  cell = cell_by d s;
}
