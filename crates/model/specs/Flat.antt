-- The items and the lines of a model as it is written, under a dictionary.
use Rattle.std.proofs.Math.Option as maybe
use Rattle.std.specs.Prelude.{ℕ, suc, ◌+◌, cond, List, [], ◌∷◌, ◌++◌, length, Some, None, Option}
use Rattle.terms.specs.Trees.{Tree}
use Rattle.terms.specs.Trees as tree
use Rattle.syntax.specs.Trees as written
use Rattle.model.specs.declared.program.Item.{Item}
use Rattle.model.specs.declared.program.Item.TheVariants.{Open, Close, Sign, Number, Integer, Attribute, Head, Cell, Truth, Nil}
use Rattle.model.specs.declared.program.Line.{Line}
use Rattle.model.specs.declared.program.Line.TheVariants.{Assign, Clear, Tail, Read, Load, Select, Next, Insert, Update, Delete, Commit, Rollback, If, While, End}
use Rattle.model.specs.Elaborate.{Dictionary, operator_of}

-- How many lines a block has: one for each statement, and one that ends each block.
abbrev pub size : written.Block → ℕ
size written.none = 1
size (written.simple s b) = suc (size b)
size (written.branch c x y b) = suc (size x + (size y + size b))
size (written.loop c x b) = suc (size x + size b)

module _ (d : Dictionary) where
  -- A lone name, in a clause of a table or in none.
  abbrev pub lone_item : maybe.Option ℕ → List ℕ → Item
  lone_item maybe.none v = Integer (d.variable v)
  lone_item (maybe.some t) v = cond (d.hides t v) (Attribute (d.place t v)) (Integer (d.variable v))

  -- The items of a term, as it is written.
  abbrev pub items_of : maybe.Option ℕ → Tree → List Item
  items_of k (tree.literal n) = Number n ∷ []
  items_of k (tree.lone v) = lone_item k v ∷ []
  items_of k (tree.head v) = Head (d.variable v) ∷ []
  items_of k (tree.cell v a) = Cell (d.variable v) (d.cell v a) ∷ []
  items_of k (tree.truth b) = Truth b ∷ []
  items_of k (tree.is_nil v) = Open ∷ Nil (d.variable v) ∷ Close ∷ []
  items_of k (tree.only s t) = Open ∷ Sign (operator_of s) ∷ items_of k t ++ (Close ∷ [])
  items_of k (tree.pair s l r) = Open ∷ items_of k l ++ (Sign (operator_of s) ∷ items_of k r ++ (Close ∷ []))

  -- The values of INSERT, one behind another.
  abbrev pub values_items : List Tree → List Item
  values_items [] = []
  values_items (e ∷ es) = items_of maybe.none e ++ values_items es

  abbrev pub act_items : written.Act → List Item
  act_items (written.next v) = []
  act_items (written.insert t e es) = values_items (e ∷ es)
  act_items (written.update t a e c) = items_of (maybe.some (d.table t)) e ++ items_of (maybe.some (d.table t)) c
  act_items (written.delete t c) = items_of (maybe.some (d.table t)) c

  abbrev pub simple_items : written.Simple → List Item
  simple_items (written.assign v e) = items_of maybe.none e
  simple_items (written.clear v) = []
  simple_items (written.tail v w) = []
  simple_items (written.select v a others t c) = items_of (maybe.some (d.table t)) c
  simple_items (written.caught v a) = act_items a
  simple_items (written.read v) = []
  simple_items (written.load v) = []
  simple_items (written.act a) = act_items a
  simple_items written.commit = []
  simple_items written.rollback = []

  -- The items of a block's terms, in text order.
  abbrev pub block_items : written.Block → List Item
  block_items written.none = []
  block_items (written.simple s b) = simple_items s ++ block_items b
  block_items (written.branch c x y b) = items_of maybe.none c ++ (block_items x ++ (block_items y ++ block_items b))
  block_items (written.loop c x b) = items_of maybe.none c ++ (block_items x ++ block_items b)

  -- The line of a statement whose items stand at a place.
  abbrev pub act_line : ℕ → Option ℕ → written.Act → Line
  act_line at h (written.next v) = Next (d.variable v) h
  act_line at h (written.insert t e es) = Insert (d.table t) at (length (e ∷ es)) h
  act_line at h (written.update t a e c) = Update (d.table t) (d.place (d.table t) a) at (at + length (items_of (maybe.some (d.table t)) e)) h
  act_line at h (written.delete t c) = Delete (d.table t) at h

  abbrev pub simple_line : ℕ → written.Simple → Line
  simple_line at (written.assign v e) = Assign (d.variable v) at
  simple_line at (written.clear v) = Clear (d.variable v)
  simple_line at (written.tail v w) = Tail (d.variable v) (d.variable w)
  simple_line at (written.select v a others t c) = Select (d.variable v) (d.table t) at
  simple_line at (written.caught v a) = act_line at (Some (d.variable v)) a
  simple_line at (written.read v) = Read (d.variable v)
  simple_line at (written.load v) = Load (d.variable v)
  simple_line at (written.act a) = act_line at None a
  simple_line at written.commit = Commit
  simple_line at written.rollback = Rollback

  -- The lines of a block whose items stand at a place; behind a part stand the items of those after it.
  abbrev pub block_lines : ℕ → written.Block → List Line
  block_lines at written.none = End ∷ []
  block_lines at (written.simple s b) = simple_line at s ∷ block_lines (at + length (simple_items s)) b
  block_lines at (written.branch c x y b) =
      let first : ℕ = at + length (items_of maybe.none c) in
      let second : ℕ = first + length (block_items x) in
      let third : ℕ = second + length (block_items y) in
      If at (size x) (size x + size y) ∷ block_lines first x ++ (block_lines second y ++ block_lines third b)
  block_lines at (written.loop c x b) =
      let first : ℕ = at + length (items_of maybe.none c) in
      let second : ℕ = first + length (block_items x) in
      While at (size x) ∷ block_lines first x ++ block_lines second b
