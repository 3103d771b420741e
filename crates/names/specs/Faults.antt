-- Which names of a model are at fault.
use Rattle.std.specs.Prelude.{ℕ, ◌+◌, Bool, true, false, cond, not, ◌&&◌, ◌||◌, List, [], ◌∷◌, length, Some, None, Option, is_some, ◌==◌, slice_index_or}
use Rattle.std.specs.Bool.{beq}
use Rattle.lexer.specs.declared.signs.Sign.TheVariants.{Semicolon, Comma}
use Rattle.terms.specs.Pull.{is_sign}
use Rattle.lexer.specs.declared.name.Name.{Name}
use Rattle.roles.specs.declared.role.Declared.{Declared}
use Rattle.roles.specs.declared.role.Declared.TheVariants as declares
use Rattle.roles.specs.declared.role.Use.{Use}
use Rattle.roles.specs.declared.role.Use.TheVariants as use_of
use Rattle.roles.specs.declared.role.Access.{Access}
use Rattle.roles.specs.declared.role.Access.TheVariants as access
use Rattle.roles.specs.declared.role.Column.{Column}
use Rattle.roles.specs.declared.role.Column.TheVariants as column
use Rattle.roles.specs.declared.role.Role.{Role}
use Rattle.roles.specs.declared.role.Role.TheVariants as role
use Rattle.roles.specs.declared.role.Part.{Part}
use Rattle.roles.specs.Roles.{name_of}
use Rattle.names.specs.declared.scope.Choice.{Choice}
use Rattle.names.specs.declared.binding.Kind.{Kind}
use Rattle.names.specs.declared.binding.Kind.TheVariants as kind
use Rattle.names.specs.declared.binding.Variable.{Variable}
use Rattle.names.specs.declared.binding.Bound.{Bound}
use Rattle.names.specs.declared.binding.Bound.TheVariants as bound
use Rattle.names.specs.declared.faulty.Spot.{Spot}
use Rattle.names.specs.Schema.{Decl, table_number, fields_of}
use Rattle.names.specs.Scopes.{place_in, chosen, table_is}
use Rattle.names.specs.Binding.{kind_of, kind_at, choice_at, Names}

-- A table or an attribute that there is not.
abbrev pub is_unknown : Bound → Bool
is_unknown bound.Free = false
is_unknown bound.Unknown = true
is_unknown (bound.Variable x) = false
is_unknown (bound.Table t) = false
is_unknown (bound.Attribute k) = false

-- A table declared before under the same name: the first with that name is another.
abbrev pub other_table : ℕ → Bound → Bool
other_table n bound.Free = false
other_table n bound.Unknown = false
other_table n (bound.Variable x) = false
other_table n (bound.Table t) = not (t == n)
other_table n (bound.Attribute k) = false

-- An attribute declared before in the same table.
abbrev pub other_field : ℕ → Bound → Bool
other_field n bound.Free = false
other_field n bound.Unknown = false
other_field n (bound.Variable x) = false
other_field n (bound.Table t) = false
other_field n (bound.Attribute k) = not (k == n)

-- In the declaration of a table: declared twice, or unknown.
abbrev pub declared_wrong : Spot → Bound → Declared → Bool
declared_wrong s b declares.Table = other_table (s.tables + 1) b
declared_wrong s b declares.Field = other_field s.fields b
declared_wrong s b declares.Key = is_unknown b
declared_wrong s b declares.Foreign = is_unknown b
declared_wrong s b declares.References = is_unknown b
declared_wrong s b declares.Check = is_unknown b

abbrev pub kind_number : Kind → ℕ
kind_number kind.Integer = 0
kind_number kind.List = 1
kind_number kind.Table = 2

-- The same flags.
abbrev pub same_flags : List Bool → List Bool → Bool
same_flags [] [] = true
same_flags [] (y ∷ ys) = false
same_flags (x ∷ xs) [] = false
same_flags (x ∷ xs) (y ∷ ys) = beq x y && same_flags xs ys

-- The same table, or none.
abbrev pub same_table : Option ℕ → Option ℕ → Bool
same_table None None = true
same_table None (Some u) = false
same_table (Some t) None = false
same_table (Some t) (Some u) = t == u

-- Two SELECTs agree: they have one table and pick the same of its attributes.
abbrev pub agrees : Choice → Choice → Bool
agrees c e = same_table c.table e.table && (same_flags c.picked e.picked && beq c.strange e.strange)

abbrev pub agrees_with : Option Choice → Choice → Bool
agrees_with None e = false
agrees_with (Some c) e = agrees c e

-- A SELECT has to agree with the first one into its variable.
abbrev pub select_wrong : Decl → Option Choice → List Part → Use → Bool
select_wrong d c ps use_of.Select = not (agrees_with c (chosen d ps))
select_wrong d c ps use_of.Assign = false
select_wrong d c ps use_of.Clear = false
select_wrong d c ps use_of.Tail = false
select_wrong d c ps use_of.Of = false
select_wrong d c ps use_of.Catch = false
select_wrong d c ps use_of.Read = false
select_wrong d c ps use_of.Load = false
select_wrong d c ps use_of.Next = false
select_wrong d c ps use_of.Lone = false
select_wrong d c ps use_of.Head = false
select_wrong d c ps use_of.Nil = false
select_wrong d c ps use_of.Cursor = false

-- A variable that has a table's name, or is of another kind than at its first use. What hides a variable is none.
abbrev pub variable_wrong : Decl → List Variable → Name → List Part → Use → Bound → Bool
variable_wrong d vs n ps u bound.Free = false
variable_wrong d vs n ps u bound.Unknown = false
variable_wrong d vs n ps u (bound.Variable x) =
    is_some (table_number d n) || (not (kind_number (kind_at vs x) == kind_number (kind_of u)) || select_wrong d (choice_at vs x) ps u)
variable_wrong d vs n ps u (bound.Table t) = false
variable_wrong d vs n ps u (bound.Attribute k) = false

-- INSERT gives one value more than there are commas up to its semicolon.
abbrev pub comma_after : ℕ → Part → ℕ
comma_after n p = cond (is_sign Comma p.token.word) (n + 1) n

abbrev pub commas_from : ℕ → List Part → ℕ
commas_from n [] = n
commas_from n (p ∷ ps) = cond (is_sign Semicolon p.token.word) n (commas_from (comma_after n p) ps)

abbrev pub values_in : List Part → ℕ
values_in ps = commas_from 0 ps + 1

-- It has to give as many as the table has attributes.
abbrev pub count_wrong : Decl → List Part → Bound → Bool
count_wrong d ps bound.Free = false
count_wrong d ps bound.Unknown = true
count_wrong d ps (bound.Variable x) = false
count_wrong d ps (bound.Table t) = not (values_in ps == length (fields_of d t))
count_wrong d ps (bound.Attribute k) = false

abbrev pub access_wrong : Decl → List Part → Bound → Access → Bool
access_wrong d ps b access.From = is_unknown b
access_wrong d ps b access.Update = is_unknown b
access_wrong d ps b access.Insert = count_wrong d ps b

-- The attribute of v(a) is among those of the first SELECT into v.
abbrev pub picked_at : Choice → Option ℕ → Bool
picked_at c None = false
picked_at c (Some k) = slice_index_or c.picked k false

abbrev pub is_picked : Decl → Option Choice → Name → Bool
is_picked d None n = false
is_picked d (Some c) n = picked_at c (place_in d c.table n)

abbrev pub column_wrong : Decl → List Variable → Spot → Name → Bound → Column → Bool
column_wrong d vs s n b column.Pick = is_unknown b
column_wrong d vs s n b column.Set = is_unknown b
column_wrong d vs s n b column.Cell = not (is_picked d (choice_at vs s.cursor) n)

-- A part whose name is at fault, with the parts behind it.
abbrev pub wrong : Decl → List Variable → Spot → Name → List Part → Bound → Role → Bool
wrong d vs s n ps b role.Plain = false
wrong d vs s n ps b role.Title = false
wrong d vs s n ps b (role.Declared a) = declared_wrong s b a
wrong d vs s n ps b (role.Variable u) = variable_wrong d vs n ps u b
wrong d vs s n ps b (role.Table a) = access_wrong d ps b a
wrong d vs s n ps b (role.Attribute a) = column_wrong d vs s n b a

-- How many tables are declared, how many attributes of the last one, and the last variable bound.
abbrev pub cursor_after : ℕ → Bound → ℕ
cursor_after x bound.Free = x
cursor_after x bound.Unknown = x
cursor_after x (bound.Variable y) = y
cursor_after x (bound.Table t) = x
cursor_after x (bound.Attribute k) = x

abbrev pub field_is : Role → Bool
field_is role.Plain = false
field_is role.Title = false
field_is (role.Declared declares.Table) = false
field_is (role.Declared declares.Field) = true
field_is (role.Declared declares.Key) = false
field_is (role.Declared declares.Foreign) = false
field_is (role.Declared declares.References) = false
field_is (role.Declared declares.Check) = false
field_is (role.Variable u) = false
field_is (role.Table a) = false
field_is (role.Attribute a) = false

abbrev pub spot_after : Spot → Role → Bound → Spot
spot_after s r b = record {
  tables = cond (table_is r) (s.tables + 1) s.tables;
  fields = cond (table_is r) 0 (cond (field_is r) (s.fields + 1) s.fields);
  cursor = cursor_after s.cursor b;
}

-- The place of the first name at fault; each part goes with what it is bound to.
unfoldable pub wrong_from : Decl → List Variable → Spot → List Part → List Bound → Option ℕ
wrong_from d vs s [] bs = None
wrong_from d vs s (p ∷ ps) [] = None
wrong_from d vs s (p ∷ ps) (b ∷ bs) = cond (wrong d vs s (name_of p) ps b p.role) (Some p.token.place) (wrong_from d vs (spot_after s p.role b) ps bs)

abbrev pub start_spot : Spot
start_spot = record { tables = 0; fields = 0; cursor = 0 }

abbrev pub wrong_in : Decl → Names → List Part → Option ℕ
wrong_in d s ps = wrong_from d s.variables start_spot ps s.bounds
