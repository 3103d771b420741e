use Rattle.std.proofs.Common.{◌-◌, map, ◌∙◌, arith}
use Rattle.chain.proofs.Slots.{read_node, next_read_lem}
use Rattle.chain.proofs.chains.after.Goals as goal

pub returns : goal.returns
returns g c =
    next_read_lem c.args.cells.now (c.args.node - 1) c.index-cells-node.result (omega (arith, c.requires.node))
    ∙ read_node c.args.heads.now (map (λ x. x.next) c.args.cells.now) c.args.chain c.args.node (omega arith)
