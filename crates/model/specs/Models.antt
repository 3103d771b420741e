-- The model that a checked model stands for.
use Rattle.std.specs.Prelude.{ℕ, List, map, pos, vec_items}
use Rattle.std.specs.declared.cmp.Ordering.{Ordering}
use Rattle.std.specs.declared.cmp.Ordering.TheVariants.{Less, Equal, Greater}
use Rattle.meaning.specs.Values as values
use Rattle.meaning.specs.Schema as meaning
use Rattle.model.specs.declared.schema.Table.{Table}
use Rattle.model.specs.declared.schema.Reference.{Reference}
use Rattle.model.specs.declared.schema.Check.{Check}
use Rattle.model.specs.declared.schema.Variable.{Variable}
use Rattle.model.specs.declared.program.Item.{Item}
use Rattle.model.specs.declared.program.Line.{Line}
use Rattle.model.specs.declared.model.Model.{Model}
use Rattle.model.specs.Program.{block_at}

-- What a model holds, apart from its memory.
pub record Contents : Type 0 where
  pub text : List ℕ
  pub tables : List Table
  pub references : List Reference
  pub checks : List Check
  pub variables : List Variable
  pub lines : List Line
  pub items : List Item

abbrev pub contents : Model → Contents
contents m = record { text = vec_items m.text; tables = vec_items m.tables; references = vec_items m.references; checks = vec_items m.checks; variables = vec_items m.variables; lines = vec_items m.lines; items = vec_items m.items }

abbrev pub order_of : Ordering → values.Order
order_of Less = values.less
order_of Equal = values.same
order_of Greater = values.more

abbrev pub shape_of : Table → meaning.Shape
shape_of t = record { width = t.width; key = t.key }

abbrev pub ref_of : Reference → meaning.Ref
ref_of r = record { of = r.of; from = r.from; to = r.to }

abbrev pub check_of : Check → meaning.Check
check_of c = record { of = c.of; at = c.at; order = order_of c.order; bound = pos c.bound }

-- The tables, references and checks, each in order; the program is the block that begins at the first line.
abbrev pub read_model : Contents → meaning.Model
read_model m =
    record { schema = record { tables = map shape_of m.tables; refs = map ref_of m.references; checks = map check_of m.checks }; program = block_at m.items m.lines 0 }

abbrev pub model_of : Model → meaning.Model
model_of m = read_model (contents m)
