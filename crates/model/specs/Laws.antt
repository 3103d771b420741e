-- What holds of reading items and lines.
use Rattle.std.specs.Prelude.{◌≡◌, ℕ, List, map}
use Rattle.std.proofs.Math.Option.{Option}
use Rattle.syntax.specs.Trees.{WellFormed}
use Rattle.syntax.specs.Trees as written
use Rattle.model.specs.declared.program.Item.{Item}
use Rattle.meaning.specs.Evaluation.{Env, Row, value, truth}
use Rattle.model.specs.Machine.{term}
use Rattle.model.specs.Terms.{as_expression, as_condition, trees}
use Rattle.model.specs.Working.{worths, as_number, as_fact}
use Rattle.model.specs.Elaborate.{Dictionary, shapes_of, refs_of, checks_of, elaborate}
use Rattle.model.specs.Flat.{block_items, block_lines}
use Rattle.model.specs.Models.{Contents, shape_of, ref_of, check_of, read_model}

-- A checked model holds what is written: its schema under the dictionary, and the lines and items of its statements.
pub record Holds (d : Dictionary) (m : written.Model) (c : Contents) : Type 0 where
  pub tables : map shape_of c.tables ≡ shapes_of d 1 m.tables
  pub references : map ref_of c.references ≡ refs_of d 1 m.tables
  pub checks : map check_of c.checks ≡ checks_of d 1 m.tables
  pub lines : c.lines ≡ block_lines d 0 m.statements
  pub items : c.items ≡ block_items d m.statements

-- A checked model that holds what is written, being well formed, stands for what that stands for.
abbrev pub ReadsBack : Type 0
ReadsBack = (d : Dictionary) (m : written.Model) (c : Contents) → WellFormed m → Holds d m c → read_model c ≡ elaborate d m

-- What is worked out item by item comes to the value of the expression, and to the truth of the condition, that the items stand for,
-- and leaves the same items behind.
abbrev pub WorksOut : Type 0
WorksOut =
    (η : Env ℕ ℕ ℕ) (r : Option Row) (is : List Item)
    → (value η r (as_expression (term trees is).worth) ≡ as_number (term (worths η r) is).worth)
    × (truth η r (as_condition (term trees is).worth) ≡ as_fact (term (worths η r) is).worth)
    × ((term trees is).rest ≡ (term (worths η r) is).rest)
