-- The names of a checked model, as parts of its own text, and the variable that a name is.
use Rattle.std.specs.Prelude.{ℕ, zero, suc, List, take, position, None, Option}
use Rattle.std.specs.Option.{option_map, option_flatten}
use Rattle.std.specs.List.{slice_get}
use Rattle.std.specs.Str.{bytes_eq}
use Rattle.lexer.specs.declared.name.Name.{Name}
use Rattle.lexer.specs.Names.{spelled}
use Rattle.model.specs.declared.schema.Table.{Table}
use Rattle.model.specs.Models.{Contents}

-- The element of a number counted from 1, if there is one.
abbrev pub by_number : {X : Type 0} → List X → ℕ → Option X
by_number xs zero = None
by_number xs (suc n) = slice_get xs n

-- The name of a variable, counted from 0.
abbrev pub variable_name : Contents → ℕ → Option (List ℕ)
variable_name m v = option_map (λ x. spelled m.text x.name) (slice_get m.variables v)

-- The name of a table, counted from 1.
abbrev pub table_name : Contents → ℕ → Option (List ℕ)
table_name m t = option_map (λ x. spelled m.text x.title) (by_number m.tables t)

-- The name of an attribute of a table, counted from 0, where the table has it.
abbrev pub field_of : ℕ → Table → Option Name
field_of k t = slice_get (take t.width t.fields) k

-- The name of an attribute of a table, counted from 1.
abbrev pub attribute_name : Contents → ℕ → ℕ → Option (List ℕ)
attribute_name m t k = option_map (spelled m.text) (option_flatten (option_map (field_of k) (by_number m.tables t)))

-- The first variable of a name.
abbrev pub variable_named : Contents → List ℕ → Option ℕ
variable_named m name = position (λ v. bytes_eq (spelled m.text v.name) name) m.variables
