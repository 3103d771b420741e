use Rattle.std.proofs.Common.{◌≡◌, ℕ, ◌+◌, ◌-◌, ◌<◌, ◌≤◌, List, ◌++◌, map, length, get_or, set, sym, ap, refl, ◌∙◌, zero-le, arith, rules}
use Rattle.std.proofs.lemmas.List.{map-set, length-set}
use Rattle.std.specs.List.{insert}
use Rattle.chain.specs.declared.cells.Cell.{Cell}
use Rattle.chain.specs.Lists.{Sound, pointers, slot_of, relinked, free, Before, nodes_of, elements}
use Rattle.chain.proofs.Slots.{nexts_kept}
use Rattle.chain.proofs.Elements.{is_node, first_node, before_in, put_lists}
use Rattle.chain.proofs.changes.ChainsMut.put_after.Goals as goal

-- the first free node is a cell
first_free : {X : Type 0} (heads : List ℕ) (cells : List (Cell X)) (x : ℕ) → Sound heads cells → 0 < length heads → 0 < free heads cells → x ≡ get_or (pointers heads cells) 0 0 → (0 < x) × (x ≤ length cells)
first_free heads cells x s some room e =
    let i = is_node heads cells s 0 0 some room in
    let first = first_node heads cells s 0 some in
    (omega (arith, i.0, first, e), omega (arith, i.1, first, e))

-- the cell of a node with another value
record With {X : Type 0} (cells : List (Cell X)) (x : ℕ) (v : X) (cells' : List (Cell X)) : Type 0 where
  nexts : map (λ c. c.next) cells' ≡ map (λ c. c.next) cells
  values : map (λ c. c.value) cells' ≡ set (map (λ c. c.value) cells) (x - 1) v
  size : length cells' ≡ length cells

with_kept : {X : Type 0} (cells : List (Cell X)) (x : ℕ) (v : X) (d : Cell X) → (0 < x) × (x ≤ length cells) → With cells x v (set cells (x - 1) (record { next = (get_or cells (x - 1) d).next; value = v }))
with_kept cells x v d i = record {
  nexts = nexts_kept cells (x - 1) v d (omega (arith, i.0, i.1));
  values = map-set (λ c. c.value) cells (x - 1) (record { next = (get_or cells (x - 1) d).next; value = v });
  size = length-set cells (x - 1) (record { next = (get_or cells (x - 1) d).next; value = v });
}

-- after such a change of the first free node's cell, and a shift of the node
put_shifted : {X : Type 0} (heads : List ℕ) (cells cells1 : List (Cell X)) (s : Sound heads cells) (heads' : List ℕ) (cells' : List (Cell X)) (same : length heads' ≡ length heads) (c node p x : ℕ) (from : 0 < c) (to : c < length heads) (v : X)
    → Before (nodes_of heads cells c) node p → 0 < free heads cells → x ≡ get_or (pointers heads cells) 0 0 → With cells x v cells1
    → pointers heads' cells' ≡ relinked (length heads) (pointers heads cells1) (get_or (pointers heads cells1) 0 0) 0 (slot_of (length heads) c node)
    → map (λ c. c.value) cells' ≡ map (λ c. c.value) cells1
    → Sound heads' cells'
    × ((d : X) → elements d heads' cells' c ≡ insert (elements d heads cells c) p v)
    × ((e : ℕ) (d : X) → 0 < e → e < length heads → (e ≡ c → ⊥) → elements d heads' cells' e ≡ elements d heads cells e)
    × (free heads' cells' + 1 ≡ free heads cells)
put_shifted heads cells cells1 s heads' cells' same c node p x from to v b room first w is vals =
    put_lists heads cells s heads' cells' same c node p from to v b room
    (is ∙ ap (λ t. relinked (length heads) (heads ++ t) (get_or (heads ++ t) 0 0) 0 (slot_of (length heads) c node)) w.nexts)
    (vals ∙ w.values ∙ ap (λ j. set (map (λ c. c.value) cells) (j - 1) v) first)

pub bounds-cells-x : goal.bounds-cells-x
bounds-cells-x g c =
    let i = first_free c.args.self.now.heads.now c.args.self.now.cells.now c.after-x.result c.args.self.now.sound (omega arith) c.requires.room c.after-x.ensures in
    omega (arith, i.0, i.1)

pub bounds-cells-x-2 : goal.bounds-cells-x-2
bounds-cells-x-2 g c = bounds-cells-x g c

pub offset_bounds-cells-x : goal.offset_bounds-cells-x
offset_bounds-cells-x g c =
    let i = first_free c.args.self.now.heads.now c.args.self.now.cells.now c.after-x.result c.args.self.now.sound (omega arith) c.requires.room c.after-x.ensures in
    let lt : c.after-x.result - 1 < length c.args.self.now.cells.now = omega (arith, i.0, i.1) in
    search rules

pub shift-requires : goal.shift-requires
shift-requires g c =
    let i = first_free c.args.self.now.heads.now c.args.self.now.cells.now c.after-x.result c.args.self.now.sound (omega arith) c.requires.room c.after-x.ensures in
    let same = with_kept c.args.self.now.cells.now c.after-x.result c.args.value c.index-cells-x.result i in
    let x = ap (λ t. get_or (c.args.self.now.heads.now ++ t) 0 0) same.nexts ∙ sym c.after-x.ensures in
    record {
      from = omega arith;
      to = c.requires.to;
      a = zero-le;
      b = omega (arith, same.size, before_in c.args.self.now.heads.now c.args.self.now.cells.now c.args.self.now.sound c.args.chain c.requires.at.0 c.args.node c.requires.to c.requires.at.1);
      some = omega (arith, i.0, x);
      within = omega (arith, same.size, i.1, x);
    }

pub invariant_of-self : goal.invariant_of-self
invariant_of-self g c =
    let i = first_free c.args.self.now.heads.now c.args.self.now.cells.now c.after-x.result c.args.self.now.sound (omega arith) c.requires.room c.after-x.ensures in
    record { sound = (put_shifted c.args.self.now.heads.now c.args.self.now.cells.now _ c.args.self.now.sound c.shift.new.heads c.shift.new.cells c.shift.auto.heads c.args.chain c.args.node c.requires.at.0 c.after-x.result c.requires.from c.requires.to c.args.value c.requires.at.1 c.requires.room c.after-x.ensures (with_kept c.args.self.now.cells.now c.after-x.result c.args.value c.index-cells-x.result i) c.shift.ensures.pointers c.shift.ensures.values).0 }

pub returns : goal.returns
returns g c =
    let i = first_free c.args.self.now.heads.now c.args.self.now.cells.now c.after-x.result c.args.self.now.sound (omega arith) c.requires.room c.after-x.ensures in
    let one = put_shifted c.args.self.now.heads.now c.args.self.now.cells.now _ c.args.self.now.sound c.shift.new.heads c.shift.new.cells c.shift.auto.heads c.args.chain c.args.node c.requires.at.0 c.after-x.result c.requires.from c.requires.to c.args.value c.requires.at.1 c.requires.room c.after-x.ensures (with_kept c.args.self.now.cells.now c.after-x.result c.args.value c.index-cells-x.result i) c.shift.ensures.pointers c.shift.ensures.values in
    record {
      same_heads = refl;
      same_cells = refl;
      width = c.shift.auto.heads;
      size = c.shift.auto.cells ∙ (with_kept c.args.self.now.cells.now c.after-x.result c.args.value c.index-cells-x.result i).size;
      here = λ p d b. (put_shifted c.args.self.now.heads.now c.args.self.now.cells.now _ c.args.self.now.sound c.shift.new.heads c.shift.new.cells c.shift.auto.heads c.args.chain c.args.node p c.after-x.result c.requires.from c.requires.to c.args.value b c.requires.room c.after-x.ensures (with_kept c.args.self.now.cells.now c.after-x.result c.args.value c.index-cells-x.result i) c.shift.ensures.pointers c.shift.ensures.values).1 d;
      there = one.2;
      free = one.3;
    }
