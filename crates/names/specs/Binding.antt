-- What each name of a model is bound to, and the variables in the order of their first use.
use Rattle.std.specs.Prelude.{◌≡◌, ℕ, cond, ◌⊎◌, List, [], ◌∷◌, ◌++◌, length, Some, None, Ok, Err, vec_items, Option, Result, position, nat_lt, slice_set}
use Rattle.std.specs.List.{slice_get}
use Rattle.faults.specs.declared.Fault.{Fault}
use Rattle.faults.specs.declared.Fault.TheVariants.{LimitPassed, Memory}
use Rattle.terms.specs.Pull.{and_then}
use Rattle.lexer.specs.declared.name.Name.{Name}
use Rattle.roles.specs.declared.role.Declared.{Declared}
use Rattle.roles.specs.declared.role.Declared.TheVariants as declares
use Rattle.roles.specs.declared.role.Use.{Use}
use Rattle.roles.specs.declared.role.Use.TheVariants as use_of
use Rattle.roles.specs.declared.role.Column.{Column}
use Rattle.roles.specs.declared.role.Column.TheVariants as column
use Rattle.roles.specs.declared.role.Role.{Role}
use Rattle.roles.specs.declared.role.Role.TheVariants as role
use Rattle.roles.specs.declared.role.Part.{Part}
use Rattle.roles.specs.Roles.{name_of}
use Rattle.names.specs.declared.scope.Scope.{Scope}
use Rattle.names.specs.declared.scope.Choice.{Choice}
use Rattle.names.specs.declared.binding.Kind.{Kind}
use Rattle.names.specs.declared.binding.Kind.TheVariants as kind
use Rattle.names.specs.declared.binding.Variable.{Variable}
use Rattle.names.specs.declared.binding.Bound.{Bound}
use Rattle.names.specs.declared.binding.Bound.TheVariants as bound
use Rattle.names.specs.declared.binding.Names as code
use Rattle.names.specs.Spelled.{same_name}
use Rattle.names.specs.Schema.{Decl, table_number, field_place}
use Rattle.names.specs.Scopes.{last_number, table_around, place_in, chosen, scope_after}

-- The form of a use gives the variable's kind.
abbrev pub kind_of : Use → Kind
kind_of use_of.Assign = kind.Integer
kind_of use_of.Clear = kind.List
kind_of use_of.Tail = kind.List
kind_of use_of.Of = kind.List
kind_of use_of.Select = kind.Table
kind_of use_of.Catch = kind.Integer
kind_of use_of.Read = kind.Integer
kind_of use_of.Load = kind.List
kind_of use_of.Next = kind.Table
kind_of use_of.Lone = kind.Integer
kind_of use_of.Head = kind.List
kind_of use_of.Nil = kind.List
kind_of use_of.Cursor = kind.Table

-- A table by its number.
abbrev pub table_bound : Option ℕ → Bound
table_bound None = bound.Unknown
table_bound (Some t) = bound.Table t

-- An attribute by its place in a table; of an unknown table every attribute will do.
abbrev pub attribute_bound : Option ℕ → Bound
attribute_bound None = bound.Unknown
attribute_bound (Some k) = bound.Attribute k

abbrev pub field_bound : Decl → Option ℕ → Name → Bound
field_bound d None n = bound.Free
field_bound d (Some t) n = attribute_bound (field_place d t n)

abbrev pub declared_bound : Decl → Scope → Name → Declared → Bound
declared_bound d s n declares.Table = table_bound (table_number d n)
declared_bound d s n declares.Field = field_bound d (last_number s.declared) n
declared_bound d s n declares.Key = field_bound d (last_number s.declared) n
declared_bound d s n declares.Foreign = field_bound d (last_number s.declared) n
declared_bound d s n declares.References = table_bound (table_number d n)
declared_bound d s n declares.Check = field_bound d (last_number s.declared) n

-- The attribute of v(a) is told by the SELECT into v, which may stand anywhere.
abbrev pub column_bound : Decl → Scope → Name → Column → Bound
column_bound d s n column.Pick = field_bound d (table_around s.clause) n
column_bound d s n column.Set = field_bound d (table_around s.clause) n
column_bound d s n column.Cell = bound.Free

-- What a name is bound to that is no variable's.
abbrev pub other_bound : Decl → Scope → Name → Role → Bound
other_bound d s n role.Plain = bound.Free
other_bound d s n role.Title = bound.Free
other_bound d s n (role.Declared a) = declared_bound d s n a
other_bound d s n (role.Variable u) = bound.Free
other_bound d s n (role.Table a) = table_bound (table_number d n)
other_bound d s n (role.Attribute a) = column_bound d s n a

-- The variables so far, in the order of their first use, and what each part so far is bound to.
pub record Names : Type 0 where
  pub variables : List Variable
  pub bounds : List Bound

abbrev pub names_of : code.Names → Names
names_of s = record { variables = vec_items s.variables; bounds = vec_items s.bounds }

-- The number of the variable with a name.
abbrev pub variable_place : List ℕ → List Variable → Name → Option ℕ
variable_place text vs n = position (λ v. same_name text v.name n) vs

-- The kind of a variable by its number, and what the first SELECT into it chooses; one that there is not counts as an integer.
abbrev pub kind_in : Option Variable → Kind
kind_in None = kind.Integer
kind_in (Some v) = v.kind

abbrev pub choice_in : Option Variable → Option Choice
choice_in None = None
choice_in (Some v) = v.choice

abbrev pub kind_at : List Variable → ℕ → Kind
kind_at vs x = kind_in (slice_get vs x)

abbrev pub choice_at : List Variable → ℕ → Option Choice
choice_at vs x = choice_in (slice_get vs x)

abbrev pub bound_to : Names → Bound → Names
bound_to s b = record { variables = s.variables; bounds = s.bounds ++ b ∷ [] }

-- The first SELECT into a variable is kept.
abbrev pub first_of : Option Choice → Option Choice → Option Choice
first_of None c = c
first_of (Some a) c = Some a

abbrev pub choosing : Variable → Option Choice → Variable
choosing v c = record { name = v.name; kind = v.kind; choice = first_of v.choice c }

abbrev pub rechosen_at : List Variable → ℕ → Option Choice → Option Variable → List Variable
rechosen_at vs i c None = vs
rechosen_at vs i c (Some v) = slice_set vs i (choosing v c)

abbrev pub rechosen : List Variable → ℕ → Option Choice → List Variable
rechosen vs i c = rechosen_at vs i c (slice_get vs i)

-- A variable used before keeps its number and its kind.
abbrev pub used_again : Names → ℕ → Option Choice → Names
used_again s i c = record { variables = rechosen s.variables i c; bounds = s.bounds ++ bound.Variable i ∷ [] }

-- A new variable has the next number, from 0, and the kind of this use; there are at most 32.
abbrev pub first_used : Names → Name → Kind → Option Choice → Names
first_used s n k c = record {
  variables = s.variables ++ record { name = n; kind = k; choice = c } ∷ [];
  bounds = s.bounds ++ bound.Variable (length s.variables) ∷ [];
}

abbrev pub noted : Names → Name → Kind → Option Choice → Option ℕ → Result Names Fault
noted s n k c (Some i) = Ok (used_again s i c)
noted s n k c None = cond (nat_lt (length s.variables) 32) (Ok (first_used s n k c)) (Err (LimitPassed n.place))

-- In a clause the table's attributes hide lone variables of the same name.
abbrev pub hidden_by : Decl → Scope → Name → Use → Option ℕ
hidden_by d s n use_of.Lone = place_in d (table_around s.clause) n
hidden_by d s n use_of.Assign = None
hidden_by d s n use_of.Clear = None
hidden_by d s n use_of.Tail = None
hidden_by d s n use_of.Of = None
hidden_by d s n use_of.Select = None
hidden_by d s n use_of.Catch = None
hidden_by d s n use_of.Read = None
hidden_by d s n use_of.Load = None
hidden_by d s n use_of.Next = None
hidden_by d s n use_of.Head = None
hidden_by d s n use_of.Nil = None
hidden_by d s n use_of.Cursor = None

-- What a use chooses: a SELECT its attributes, any other nothing.
abbrev pub choice_of : Decl → List Part → Use → Option Choice
choice_of d ps use_of.Select = Some (chosen d ps)
choice_of d ps use_of.Assign = None
choice_of d ps use_of.Clear = None
choice_of d ps use_of.Tail = None
choice_of d ps use_of.Of = None
choice_of d ps use_of.Catch = None
choice_of d ps use_of.Read = None
choice_of d ps use_of.Load = None
choice_of d ps use_of.Next = None
choice_of d ps use_of.Lone = None
choice_of d ps use_of.Head = None
choice_of d ps use_of.Nil = None
choice_of d ps use_of.Cursor = None

abbrev pub bound_use : Decl → Names → Name → List Part → Use → Option ℕ → Result Names Fault
bound_use d s n ps u (Some k) = Ok (bound_to s (bound.Attribute k))
bound_use d s n ps u None = noted s n (kind_of u) (choice_of d ps u) (variable_place d.text s.variables n)

-- One part more, with those behind it.
abbrev pub bound_as : Decl → Scope → Names → Name → List Part → Role → Result Names Fault
bound_as d sc s n ps role.Plain = Ok (bound_to s bound.Free)
bound_as d sc s n ps role.Title = Ok (bound_to s bound.Free)
bound_as d sc s n ps (role.Declared a) = Ok (bound_to s (declared_bound d sc n a))
bound_as d sc s n ps (role.Variable u) = bound_use d s n ps u (hidden_by d sc n u)
bound_as d sc s n ps (role.Table a) = Ok (bound_to s (table_bound (table_number d n)))
bound_as d sc s n ps (role.Attribute a) = Ok (bound_to s (column_bound d sc n a))

-- All parts, one after another, each in its scope.
unfoldable pub bound_from : Decl → Scope → Names → List Part → Result Names Fault
bound_from d sc s [] = Ok s
bound_from d sc s (p ∷ ps) = and_then (bound_as d sc s (name_of p) ps p.role) (λ t. bound_from d (scope_after d sc p ps) t ps)

abbrev pub bound_in : Decl → List Part → Result Names Fault
bound_in d ps = bound_from d (record { declared = 0; clause = None }) (record { variables = []; bounds = [] }) ps

-- A call that fails has run out of memory, or its definition has just this fault.
abbrev pub Fails : {A : Type 0} → Fault → Result A Fault → Type 0
Fails f r = (f ≡ Memory) ⊎ (r ≡ Err f)
