-- The tables of a model by their names.
use Rattle.std.specs.Prelude.{ℕ, zero, suc, ◌+◌, ◌-◌, List, [], ◌∷◌, ◌++◌, map, length, Some, None, Option, vec_items, position, option_map, slice_set}
use Rattle.std.specs.List.{slice_get}
use Rattle.lexer.specs.declared.name.Name.{Name}
use Rattle.roles.specs.declared.role.Declared.{Declared}
use Rattle.roles.specs.declared.role.Declared.TheVariants as declares
use Rattle.roles.specs.declared.role.Role.{Role}
use Rattle.roles.specs.declared.role.Role.TheVariants as role
use Rattle.roles.specs.declared.role.Part.{Part}
use Rattle.roles.specs.Roles.{name_of}
use Rattle.names.specs.declared.schema.Table as code
use Rattle.names.specs.declared.schema.Schema.{Schema}
use Rattle.names.specs.declared.schema.Tables.{Tables}
use Rattle.names.specs.declared.schema.Declaring.{Declaring}
use Rattle.names.specs.Spelled.{same_name, place_among}

-- A table: its name, the names of its attributes, and which of these is its key.
pub record Table : Type 0 where
  pub title : Name
  pub fields : List Name
  pub key : Option ℕ

-- The tables declared so far, in the order of the text, and the text that their names stand in.
pub record Decl : Type 0 where
  pub text : List ℕ
  pub tables : List Table

abbrev pub table_of : code.Table → Table
table_of t = record { title = t.title; fields = vec_items t.fields; key = t.key }

abbrev pub decl_of : Schema → Decl
decl_of s = record { text = s.text.now; tables = map table_of s.tables.now }

-- The tables of a text.
abbrev pub decl_in : List ℕ → Tables → Decl
decl_in text t = record { text = text; tables = map table_of (vec_items t.tables) }

abbrev pub declared_so : Declaring → Decl
declared_so s = record { text = s.text.now; tables = map table_of (vec_items s.tables) }

-- A number counted from 1 for what stands at a place from 0.
abbrev pub counted : Option ℕ → Option ℕ
counted o = option_map (λ i. i + 1) o

-- The number of the table with a name, if one has it; of two with one name the first.
abbrev pub table_number : Decl → Name → Option ℕ
table_number d n = counted (position (λ t. same_name d.text t.title n) d.tables)

-- The table of a number that is counted from 1, if there is one.
abbrev pub table_numbered : Decl → ℕ → Option Table
table_numbered d zero = None
table_numbered d (suc t) = slice_get d.tables t

-- The attributes of a table; no table has none.
abbrev pub fields_in : Option Table → List Name
fields_in None = []
fields_in (Some t) = t.fields

abbrev pub fields_of : Decl → ℕ → List Name
fields_of d t = fields_in (table_numbered d t)

-- The place of a name among the attributes of table t.
abbrev pub field_place : Decl → ℕ → Name → Option ℕ
field_place d t n = place_among d.text (fields_of d t) n

-- TABLE t: one table more, with no attribute yet.
abbrev pub begun : Decl → Name → Decl
begun d n = record { text = d.text; tables = d.tables ++ record { title = n; fields = []; key = None } ∷ [] }

-- The table declared last, if there is one, is changed.
abbrev pub last_as : (Table → Table) → List Table → Option Table → List Table
last_as f ts None = ts
last_as f ts (Some t) = slice_set ts (length ts - 1) (f t)

abbrev pub last_changed : (Table → Table) → Decl → Decl
last_changed f d = record { text = d.text; tables = last_as f d.tables (slice_get d.tables (length d.tables - 1)) }

-- One attribute more of the table declared last.
abbrev pub widened : Name → Table → Table
widened n t = record { title = t.title; fields = t.fields ++ n ∷ []; key = t.key }

abbrev pub grown : Decl → Name → Decl
grown d n = last_changed (widened n) d

-- PRIMARY KEY(a): the key of the table declared last.
abbrev pub keyed_by : List ℕ → Name → Table → Table
keyed_by text n t = record { title = t.title; fields = t.fields; key = place_among text t.fields n }

abbrev pub keyed : Decl → Name → Decl
keyed d n = last_changed (keyed_by d.text n) d

abbrev pub declared_as : Decl → Name → Declared → Decl
declared_as d n declares.Table = begun d n
declared_as d n declares.Field = grown d n
declared_as d n declares.Key = keyed d n
declared_as d n declares.Foreign = d
declared_as d n declares.References = d
declared_as d n declares.Check = d

abbrev pub declared_by : Decl → Name → Role → Decl
declared_by d n role.Plain = d
declared_by d n role.Title = d
declared_by d n (role.Declared a) = declared_as d n a
declared_by d n (role.Variable u) = d
declared_by d n (role.Table a) = d
declared_by d n (role.Attribute a) = d

-- What the parts of a text declare, one after another.
unfoldable pub declared_from : Decl → List Part → Decl
declared_from d [] = d
declared_from d (p ∷ ps) = declared_from (declared_by d (name_of p) p.role) ps

abbrev pub declared_in : List ℕ → List Part → Decl
declared_in text ps = declared_from (record { text = text; tables = [] }) ps
