use Rattle.std.proofs.Common.{◌-◌, map, get_or, refl, sym, ap, ◌∙◌, zero-le, arith}
use Rattle.std.proofs.lemmas.List.{get_or-map}
use Rattle.chain.specs.Lists.{nodes_of}
use Rattle.chain.proofs.Elements.{is_node, follower, before_in, take_lists}
use Rattle.chain.proofs.changes.ChainsMut.take_after.Goals as goal

pub after-taken-requires : goal.after-taken-requires
after-taken-requires g c = record {
  chain = c.requires.to;
  node = before_in c.args.self.now.heads.now c.args.self.now.cells.now c.args.self.now.sound c.args.chain c.requires.at.0 c.args.node c.requires.to c.requires.at.1;
}

pub element-held-requires : goal.element-held-requires
element-held-requires g c =
    let i = is_node c.args.self.now.heads.now c.args.self.now.cells.now c.args.self.now.sound c.args.chain c.requires.at.0 c.requires.to c.requires.at.2 in
    let x = c.after-taken.ensures ∙ follower c.args.self.now.heads.now c.args.self.now.cells.now c.args.self.now.sound c.args.chain c.requires.at.0 c.args.node c.requires.to c.requires.at.1 in
    record { from = omega (arith, i.0, x); to = omega (arith, i.1, x) }

pub shift-requires : goal.shift-requires
shift-requires g c =
    let i = is_node c.args.self.now.heads.now c.args.self.now.cells.now c.args.self.now.sound c.args.chain c.requires.at.0 c.requires.to c.requires.at.2 in
    let x = follower c.args.self.now.heads.now c.args.self.now.cells.now c.args.self.now.sound c.args.chain c.requires.at.0 c.args.node c.requires.to c.requires.at.1 in
    record {
      from = c.requires.to;
      to = omega arith;
      a = before_in c.args.self.now.heads.now c.args.self.now.cells.now c.args.self.now.sound c.args.chain c.requires.at.0 c.args.node c.requires.to c.requires.at.1;
      b = zero-le;
      some = omega (arith, i.0, x);
      within = omega (arith, i.1, x);
    }

pub invariant_of-self : goal.invariant_of-self
invariant_of-self g c =
    let one = take_lists c.args.self.now.heads.now c.args.self.now.cells.now c.args.self.now.sound c.shift.new.heads c.shift.new.cells c.shift.auto.heads c.args.chain c.args.node c.requires.at.0 c.requires.from c.requires.to c.requires.at.1 c.requires.at.2 c.shift.ensures.pointers c.shift.ensures.values in
    record { sound = one.0 }

pub returns : goal.returns
returns g c =
    let one = take_lists c.args.self.now.heads.now c.args.self.now.cells.now c.args.self.now.sound c.shift.new.heads c.shift.new.cells c.shift.auto.heads c.args.chain c.args.node c.requires.at.0 c.requires.from c.requires.to c.requires.at.1 c.requires.at.2 c.shift.ensures.pointers c.shift.ensures.values in
    record {
      answer = λ p d b lt. c.element-held.ensures d
          ∙ ap (λ i. get_or (map (λ x. x.value) c.args.self.now.cells.now) (i - 1) d) (c.after-taken.ensures ∙ follower c.args.self.now.heads.now c.args.self.now.cells.now c.args.self.now.sound c.args.chain p c.args.node c.requires.to b)
          ∙ sym (get_or-map (λ i. get_or (map (λ x. x.value) c.args.self.now.cells.now) (i - 1) d) (nodes_of c.args.self.now.heads.now c.args.self.now.cells.now c.args.chain) p 0 d lt);
      same_heads = refl;
      same_cells = refl;
      width = c.shift.auto.heads;
      size = c.shift.auto.cells;
      here = λ p d b lt. (take_lists c.args.self.now.heads.now c.args.self.now.cells.now c.args.self.now.sound c.shift.new.heads c.shift.new.cells c.shift.auto.heads c.args.chain c.args.node p c.requires.from c.requires.to b lt c.shift.ensures.pointers c.shift.ensures.values).1 d;
      there = one.2;
      free = one.3;
    }
