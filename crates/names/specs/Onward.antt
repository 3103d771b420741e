-- How far the names of a model are bound.
use Rattle.std.specs.Prelude.{◌≡◌, ◌+◌, ◌≤◌, cond, List, length, Some, None}
use Rattle.roles.specs.declared.role.Role.{Role}
use Rattle.roles.specs.declared.role.Part.{Part}
use Rattle.names.specs.declared.scope.Clause.{Clause}
use Rattle.names.specs.declared.scope.Scope.{Scope}
use Rattle.names.specs.Schema.{Decl}
use Rattle.names.specs.Scopes.{table_is}
use Rattle.names.specs.Binding.{Names, bound_from}

-- A clause begins.
abbrev pub within : Scope → Clause → Scope
within s c = record { declared = s.declared; clause = Some c }

-- A clause is over.
abbrev pub left_of : Scope → Scope
left_of s = record { declared = s.declared; clause = None }

-- Outside of clauses the tables declared are counted.
abbrev pub outside : Scope → Role → Scope
outside s r = record { declared = cond (table_is r) (s.declared + 1) s.declared; clause = None }

-- From one state with parts still to be bound to another: what is still to come is the same, and not longer.
pub record Onward (d : Decl) (from : Scope) (before : Names) (parts : List Part) (to : Scope) (after : Names) (left : List Part) : Type 0 where
  pub same : bound_from d from before parts ≡ bound_from d to after left
  pub shorter : length left ≤ length parts
