use Rattle.syntax.specs.States.{schema_of, tables_left}
use Rattle.syntax.specs.Tables.{table_behind}
use Rattle.syntax.proofs.Loops.{Loop}
use Rattle.syntax.proofs.tables.tables_end.Given as goal

abbrev pub invariant-loop-next : goal.invariant-loop-next
invariant-loop-next l =
    Loop (λ r. r.rules.at) schema_of tables_left table_behind l.at.text.now 9 (record { end = l.at.at; tables = 8; references = 16; checks = 16 }) l.schema

abbrev pub decreases-loop-next : goal.decreases-loop-next
decreases-loop-next l = l.schema.tables
