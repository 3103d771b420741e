use Rattle.std.proofs.Common.{◌≡◌, ℕ, ◌+◌, ◌<◌, ◌≤◌, List, [], ◌∷◌, map, length, get_or, sym, refl, ap, ◌∙◌, zero-le, arith}
use Rattle.std.specs.List.{remove}
use Rattle.std.proofs.lemmas.List.{length-map, get_or_append_left}
use Rattle.std.proofs.lemmas.List.Edits.{length-remove}
use Rattle.chain.specs.declared.cells.Cell.{Cell}
use Rattle.chain.specs.Lists.{Sound, nodes_of, elements}
use Rattle.chain.proofs.Elements.{first_node, node_end, node_some}
use Rattle.chain.proofs.changes.ChainsMut.free_chain.Goals as goal

none_left : (is : List ℕ) → length is ≤ 0 → is ≡ []
none_left [] h = refl
none_left (i ∷ is) h = absurd (omega arith)

-- a head leads to the chain's first node
first_head : {X : Type 0} (heads : List ℕ) (cells : List (Cell X)) (chain : ℕ) → Sound heads cells → chain < length heads → get_or heads chain 0 ≡ get_or (nodes_of heads cells chain) 0 0
first_head heads cells chain s to = sym (get_or_append_left heads (map (λ x. x.next) cells) 0 chain to) ∙ first_node heads cells s chain to

-- a chain whose first pointer is not 0 has a node
has_first : {X : Type 0} (heads : List ℕ) (cells : List (Cell X)) (chain : ℕ) → Sound heads cells → chain < length heads → (get_or heads chain 0 ≡ 0 → ⊥) → 0 < length (nodes_of heads cells chain)
has_first heads cells chain s to ne = node_some heads cells s chain 0 (omega (arith, first_head heads cells chain s to))

-- one node less
shorter : {X : Type 0} (d : X) (heads heads' : List ℕ) (cells cells' : List (Cell X)) (chain : ℕ) → elements d heads' cells' chain ≡ remove (elements d heads cells chain) 0 → 0 < length (nodes_of heads cells chain)
    → length (nodes_of heads' cells' chain) + 1 ≡ length (nodes_of heads cells chain)
shorter d heads heads' cells cells' chain e h =
    let l : length (elements d heads cells chain) ≡ length (nodes_of heads cells chain) = length-map (nodes_of heads cells chain) _ in
    let l' : length (elements d heads' cells' chain) ≡ length (nodes_of heads' cells' chain) = length-map (nodes_of heads' cells' chain) _ in
    let r = length-remove (elements d heads cells chain) 0 (omega (arith, l)) in
    omega (arith, l, l', r, ap length e)

pub take_after-requires : goal.take_after-requires
take_after-requires g c =
    let to : c.args.chain < length c.loop-self.self.heads.now = omega (arith, c.loop-self.invariant.width, c.requires.to) in
    record {
      from = c.requires.from;
      to = to;
      at = (0, (zero-le, refl), has_first c.loop-self.self.heads.now c.loop-self.self.cells.now c.args.chain c.loop-self.self.sound to c.loop-self-test.true);
    }

pub loop-self-smaller : goal.loop-self-smaller
loop-self-smaller g c =
    let some = has_first c.loop-self.self.heads.now c.loop-self.self.cells.now c.args.chain c.loop-self.self.sound (omega (arith, c.loop-self.invariant.width, c.requires.to)) c.loop-self-test.true in
    let one = shorter c.take_after.result c.loop-self.self.heads.now c.take_after.new.self.heads.now c.loop-self.self.cells.now c.take_after.new.self.cells.now c.args.chain (c.take_after.ensures.here 0 c.take_after.result (zero-le, refl) some) some in
    omega (arith, one)

pub loop-self-preserved : goal.loop-self-preserved
loop-self-preserved g c =
    let some = has_first c.loop-self.self.heads.now c.loop-self.self.cells.now c.args.chain c.loop-self.self.sound (omega (arith, c.loop-self.invariant.width, c.requires.to)) c.loop-self-test.true in
    let one = shorter c.take_after.result c.loop-self.self.heads.now c.take_after.new.self.heads.now c.loop-self.self.cells.now c.take_after.new.self.cells.now c.args.chain (c.take_after.ensures.here 0 c.take_after.result (zero-le, refl) some) some in
    record {
      same_heads = c.take_after.ensures.same_heads ∙ c.loop-self.invariant.same_heads;
      same_cells = c.take_after.ensures.same_cells ∙ c.loop-self.invariant.same_cells;
      width = c.take_after.ensures.width ∙ c.loop-self.invariant.width;
      size = c.take_after.ensures.size ∙ c.loop-self.invariant.size;
      there = λ i d lo hi ne. c.take_after.ensures.there i d lo (omega (arith, c.loop-self.invariant.width, hi)) ne ∙ c.loop-self.invariant.there i d lo hi ne;
      free = omega (arith, one, c.take_after.ensures.free, c.loop-self.invariant.free);
    }

pub returns : goal.returns
returns g c =
    let to : c.args.chain < length c.loop-self.self.heads.now = omega (arith, c.loop-self.invariant.width, c.requires.to) in
    let none = none_left (nodes_of c.loop-self.self.heads.now c.loop-self.self.cells.now c.args.chain)
    (node_end c.loop-self.self.heads.now c.loop-self.self.cells.now c.loop-self.self.sound c.args.chain 0 to
    (omega (arith, c.loop-self-test.false, first_head c.loop-self.self.heads.now c.loop-self.self.cells.now c.args.chain c.loop-self.self.sound to))) in
    record {
      same_heads = c.loop-self.invariant.same_heads;
      same_cells = c.loop-self.invariant.same_cells;
      width = c.loop-self.invariant.width;
      size = c.loop-self.invariant.size;
      here = none;
      there = c.loop-self.invariant.there;
      free = omega (arith, c.loop-self.invariant.free, ap length none);
    }
