use Rattle.std.proofs.Common.{◌≡◌, ℕ, ◌+◌, ◌<◌, length}
use Rattle.chain.specs.Lists.{nodes_of, elements, free}
use Rattle.chain.proofs.changes.ChainsMut.free_chain.Given as goal

abbrev pub invariant-loop-self : goal.invariant-loop-self
invariant-loop-self g l = record {
  same_heads : l.self.heads.ghost_name ≡ l.initial.self.heads.ghost_name;
  same_cells : l.self.cells.ghost_name ≡ l.initial.self.cells.ghost_name;
  width : length l.self.heads.now ≡ length l.initial.self.heads.now;
  size : length l.self.cells.now ≡ length l.initial.self.cells.now;
  there : (c : ℕ) (d : _) → 0 < c → c < length l.initial.self.heads.now → (c ≡ l.chain → ⊥) → elements d l.self.heads.now l.self.cells.now c ≡ elements d l.initial.self.heads.now l.initial.self.cells.now c;
  free : free l.self.heads.now l.self.cells.now + length (nodes_of l.self.heads.now l.self.cells.now l.chain) ≡ free l.initial.self.heads.now l.initial.self.cells.now + length (nodes_of l.initial.self.heads.now l.initial.self.cells.now l.chain);
}

abbrev pub decreases-loop-self : goal.decreases-loop-self
decreases-loop-self g l = length (nodes_of l.self.heads.now l.self.cells.now l.chain)
