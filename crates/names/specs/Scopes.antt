-- Where a name stands, and which clause's table hides lone variables there.
use Rattle.std.specs.Prelude.{ℕ, zero, suc, ◌+◌, Bool, true, false, cond, List, [], ◌∷◌, replicate, Some, None, Option, find, nat_lt, slice_set}
use Rattle.lexer.specs.declared.name.Name.{Name}
use Rattle.lexer.specs.declared.signs.Sign.TheVariants.{Semicolon}
use Rattle.terms.specs.Pull.{is_sign}
use Rattle.roles.specs.declared.role.Declared.TheVariants as declares
use Rattle.roles.specs.declared.role.Use.TheVariants as use_of
use Rattle.roles.specs.declared.role.Access.TheVariants as access
use Rattle.roles.specs.declared.role.Column.TheVariants as column
use Rattle.roles.specs.declared.role.Role.{Role}
use Rattle.roles.specs.declared.role.Role.TheVariants as role
use Rattle.roles.specs.declared.role.Part.{Part}
use Rattle.roles.specs.Roles.{name_of}
use Rattle.names.specs.declared.scope.Clause.{Clause}
use Rattle.names.specs.declared.scope.Scope.{Scope}
use Rattle.names.specs.declared.scope.Choice.{Choice}
use Rattle.names.specs.Schema.{Decl, table_number, field_place}

-- The number of the table declared last, if one is.
abbrev pub last_number : ℕ → Option ℕ
last_number zero = None
last_number (suc n) = Some (suc n)

-- The number of the clause's table; outside of clauses there is none.
abbrev pub table_around : Option Clause → Option ℕ
table_around None = None
table_around (Some c) = c.table

-- The table that a SELECT reads is named behind its attributes.
abbrev pub from_is : Role → Bool
from_is role.Plain = false
from_is role.Title = false
from_is (role.Declared a) = false
from_is (role.Variable u) = false
from_is (role.Table access.From) = true
from_is (role.Table access.Insert) = false
from_is (role.Table access.Update) = false
from_is (role.Attribute a) = false

abbrev pub pick_is : Role → Bool
pick_is role.Plain = false
pick_is role.Title = false
pick_is (role.Declared a) = false
pick_is (role.Variable u) = false
pick_is (role.Table a) = false
pick_is (role.Attribute column.Pick) = true
pick_is (role.Attribute column.Set) = false
pick_is (role.Attribute column.Cell) = false

-- The number of the table behind the next FROM.
abbrev pub number_of : Decl → Option Part → Option ℕ
number_of d None = None
number_of d (Some p) = table_number d (name_of p)

abbrev pub table_behind : Decl → List Part → Option ℕ
table_behind d ps = number_of d (find (λ p. from_is p.role) ps)

-- What a SELECT chooses: its table, which of the table's attributes, and whether it names anything else.
abbrev pub nothing_of : Option ℕ → Choice
nothing_of t = record { table = t; picked = replicate 8 false; strange = false }

abbrev pub picking : Choice → Option ℕ → Choice
picking c None = record { table = c.table; picked = c.picked; strange = true }
picking c (Some k) =
    cond (nat_lt k 8) (record { table = c.table; picked = slice_set c.picked k true; strange = c.strange })
    (record { table = c.table; picked = c.picked; strange = true })

-- Of an unknown table nothing can be picked.
abbrev pub place_in : Decl → Option ℕ → Name → Option ℕ
place_in d None n = None
place_in d (Some t) n = field_place d t n

abbrev pub picked_by : Decl → Choice → Part → Choice
picked_by d c p = cond (pick_is p.role) (picking c (place_in d c.table (name_of p))) c

abbrev pub picked_from : Decl → Choice → List Part → Choice
picked_from d c [] = c
picked_from d c (p ∷ ps) = cond (from_is p.role) c (picked_from d (picked_by d c p) ps)

abbrev pub chosen : Decl → List Part → Choice
chosen d ps = picked_from d (nothing_of (table_behind d ps)) ps

-- A clause begins with SELECT, with the FROM of a DELETE and with UPDATE.
abbrev pub opened : Decl → Part → List Part → Role → Option Clause
opened d p ps role.Plain = None
opened d p ps role.Title = None
opened d p ps (role.Declared a) = None
opened d p ps (role.Variable use_of.Select) = Some (record { table = table_behind d ps })
opened d p ps (role.Variable use_of.Assign) = None
opened d p ps (role.Variable use_of.Clear) = None
opened d p ps (role.Variable use_of.Tail) = None
opened d p ps (role.Variable use_of.Of) = None
opened d p ps (role.Variable use_of.Catch) = None
opened d p ps (role.Variable use_of.Read) = None
opened d p ps (role.Variable use_of.Load) = None
opened d p ps (role.Variable use_of.Next) = None
opened d p ps (role.Variable use_of.Lone) = None
opened d p ps (role.Variable use_of.Head) = None
opened d p ps (role.Variable use_of.Nil) = None
opened d p ps (role.Variable use_of.Cursor) = None
opened d p ps (role.Table access.From) = Some (record { table = table_number d (name_of p) })
opened d p ps (role.Table access.Update) = Some (record { table = table_number d (name_of p) })
opened d p ps (role.Table access.Insert) = None
opened d p ps (role.Attribute a) = None

-- A table is declared.
abbrev pub table_is : Role → Bool
table_is role.Plain = false
table_is role.Title = false
table_is (role.Declared declares.Table) = true
table_is (role.Declared declares.Field) = false
table_is (role.Declared declares.Key) = false
table_is (role.Declared declares.Foreign) = false
table_is (role.Declared declares.References) = false
table_is (role.Declared declares.Check) = false
table_is (role.Variable u) = false
table_is (role.Table a) = false
table_is (role.Attribute a) = false

-- Outside of clauses the tables declared are counted, and a clause may begin; a clause lasts to its semicolon.
abbrev pub scope_from : Decl → Part → List Part → ℕ → Option Clause → Scope
scope_from d p ps n None = record { declared = cond (table_is p.role) (n + 1) n; clause = opened d p ps p.role }
scope_from d p ps n (Some c) = record { declared = n; clause = cond (is_sign Semicolon p.token.word) None (Some c) }

abbrev pub scope_after : Decl → Scope → Part → List Part → Scope
scope_after d s p ps = scope_from d p ps s.declared s.clause
