use Rattle.std.proofs.Common.{◌-◌, map, get_or, sym, ap, ◌∙◌, arith, Some}
use Rattle.std.proofs.lemmas.List.{get_or-map}
use Rattle.std.proofs.lemmas.Option.{slice_get_within, get_or_from_slice_get}
use Rattle.chain.specs.Lists.{nodes_of}
use Rattle.chain.proofs.Elements.{is_node}
use Rattle.chain.proofs.Walks.{nth_node}
use Rattle.chain.proofs.chains.Chains.element_at.Goals as goal

pub element-requires : goal.element-requires
element-requires g c =
    let at = sym (nth_node c.nodes.result c.nth.new.self (Some c.in_ok-node.node) c.args.position (nodes_of c.args.self.now.heads.now c.args.self.now.cells.now c.args.chain) c.nodes.ensures.order c.in_ok-node.ensures.ran) in
    let node = get_or_from_slice_get (nodes_of c.args.self.now.heads.now c.args.self.now.cells.now c.args.chain) c.args.position c.in_ok-node.node 0 at in
    let i = is_node c.args.self.now.heads.now c.args.self.now.cells.now c.args.self.now.sound c.args.chain c.args.position c.requires (slice_get_within (nodes_of c.args.self.now.heads.now c.args.self.now.cells.now c.args.chain) c.args.position c.in_ok-node.node at) in
    record { from = omega (arith, i.0, node); to = omega (arith, i.1, node) }

pub returns : goal.returns
returns g c =
    let at = sym (nth_node c.nodes.result c.nth.new.self (Some c.in_ok-node.node) c.args.position (nodes_of c.args.self.now.heads.now c.args.self.now.cells.now c.args.chain) c.nodes.ensures.order c.in_ok-node.ensures.ran) in
    let lt = slice_get_within (nodes_of c.args.self.now.heads.now c.args.self.now.cells.now c.args.chain) c.args.position c.in_ok-node.node at in (
      lt,
      λ d. c.element.ensures d
          ∙ ap (λ i. get_or (map (λ x. x.value) c.args.self.now.cells.now) (i - 1) d) (sym (get_or_from_slice_get (nodes_of c.args.self.now.heads.now c.args.self.now.cells.now c.args.chain) c.args.position c.in_ok-node.node 0 at))
          ∙ sym (get_or-map (λ i. get_or (map (λ x. x.value) c.args.self.now.cells.now) (i - 1) d) (nodes_of c.args.self.now.heads.now c.args.self.now.cells.now c.args.chain) c.args.position 0 d lt),
    )
