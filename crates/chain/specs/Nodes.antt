-- What an iterator over nodes has left.
use Rattle.std.specs.Prelude.{ℕ, List, map}
use Rattle.chain.specs.declared.nodes.Nodes.{Nodes}
use Rattle.chain.specs.Lists.{walk}

-- The nodes that it still gives.
abbrev pub nodes_left : {X : Type 0} → Nodes X → List ℕ
nodes_left it = walk it.left 0 (map (λ c. c.next) it.cells.now) it.node
