-- Chained cells as lists. There are as many chains as heads; cells are nodes, numbered from 1, and 0 ends a chain.
-- Chain 0 has the nodes that are free.
use Rattle.std.specs.Prelude.{◌≡◌, ℕ, zero, suc, ◌+◌, ◌-◌, ◌<◌, ◌≤◌, List, [], ◌∷◌, ◌++◌, map, length, slice_index, slice_index_or, slice_set}
use Rattle.chain.specs.declared.cells.Cell.{Cell}

-- All pointers in one list: the heads, then the next of each cell.
abbrev pub pointers : {X : Type 0} → List ℕ → List (Cell X) → List ℕ
pointers heads cells = heads ++ map (λ c. c.next) cells

-- Where the pointer to what follows node i of chain c stands among n heads and the cells: at i = 0 it is the chain's head.
abbrev pub slot_of : ℕ → ℕ → ℕ → ℕ
slot_of n c zero = c
slot_of n c (suc i) = n + i

-- The nodes met from node h on, at most f of them.
abbrev pub walk : ℕ → ℕ → List ℕ → ℕ → List ℕ
walk zero n ps h = []
walk (suc f) n ps zero = []
walk (suc f) n ps (suc i) = suc i ∷ walk f n ps (slice_index ps (n + i))

-- The nodes of chain c, with n heads in front of the pointers.
abbrev pub nodes : ℕ → List ℕ → ℕ → List ℕ
nodes n ps c = walk (length ps) n ps (slice_index ps c)

-- The nodes of chain c.
abbrev pub nodes_of : {X : Type 0} → List ℕ → List (Cell X) → ℕ → List ℕ
nodes_of heads cells c = nodes (length heads) (pointers heads cells) c

-- What chain c holds, in order; d stands for what no cell holds.
abbrev pub elements : {X : Type 0} → X → List ℕ → List (Cell X) → ℕ → List X
elements d heads cells c = map (λ i. slice_index_or (map (λ x. x.value) cells) (i - 1) d) (nodes_of heads cells c)

-- How many nodes are free.
abbrev pub free : {X : Type 0} → List ℕ → List (Cell X) → ℕ
free heads cells = length (nodes_of heads cells 0)

-- The node before place q of a list of nodes: 0 at the front.
abbrev pub prior : List ℕ → ℕ → ℕ
prior is q = slice_index (0 ∷ is) q

-- A node stands right before place p of a list of nodes.
abbrev pub Before : List ℕ → ℕ → ℕ → Type 0
Before is node p = (p ≤ length is) × (node ≡ prior is p)

-- The sum of f below n.
abbrev pub sum_to : ℕ → (ℕ → ℕ) → ℕ
sum_to zero f = 0
sum_to (suc n) f = f n + sum_to n f

-- The pointer after each node of a chain leads to the chain's next node, and is 0 at its end.
abbrev pub Leads : ℕ → List ℕ → Type 0
Leads n ps = (i : ℕ × ℕ) → (i.0 < n) × (i.1 ≤ length (nodes n ps i.0)) → slice_index ps (slot_of n i.0 (prior (nodes n ps i.0) i.1)) ≡ slice_index (nodes n ps i.0) i.1

-- Each node of a chain is a cell.
abbrev pub Inside : ℕ → List ℕ → Type 0
Inside n ps = (i : ℕ × ℕ) → (i.0 < n) × (i.1 < length (nodes n ps i.0)) → (0 < slice_index (nodes n ps i.0) i.1) × (n + slice_index (nodes n ps i.0) i.1 ≤ length ps)

-- No node is in two chains.
abbrev pub Apart : ℕ → List ℕ → Type 0
Apart n ps = (i : ℕ × ℕ × ℕ × ℕ) → (i.0 < n) × (i.2 < n) × (i.1 < length (nodes n ps i.0)) × (i.3 < length (nodes n ps i.2)) → slice_index (nodes n ps i.0) i.1 ≡ slice_index (nodes n ps i.2) i.3 → i.0 ≡ i.2

-- Each cell is in a chain.
abbrev pub Total : ℕ → List ℕ → Type 0
Total n ps = n + sum_to n (λ c. length (nodes n ps c)) ≡ length ps

-- The chains over some cells are sound: they lead on, stay inside, are apart, and have all cells.
pub record Sound {X : Type 0} (heads : List ℕ) (cells : List (Cell X)) : Type 0 where
  pub leads : Leads (length heads) (pointers heads cells)
  pub inside : Inside (length heads) (pointers heads cells)
  pub apart : Apart (length heads) (pointers heads cells)
  pub total : Total (length heads) (pointers heads cells)

-- The pointers after node x, to which slot sa led, went to where slot sb leads.
abbrev pub relinked : ℕ → List ℕ → ℕ → ℕ → ℕ → List ℕ
relinked n ps x sa sb = slice_set (slice_set (slice_set ps sa (slice_index ps (n + (x - 1)))) sb x) (n + (x - 1)) (slice_index ps sb)

-- The nodes from i to i + n - 1.
abbrev pub nodes_from : ℕ → ℕ → List ℕ
nodes_from i zero = []
nodes_from i (suc n) = i ∷ nodes_from (suc i) n

-- The nodes 1 to n.
abbrev pub up_to : ℕ → List ℕ
up_to n = nodes_from 1 n
