use Rattle.std.proofs.Common.{◌-◌, ◌++◌, map, ap, ◌∙◌, arith}
use Rattle.std.proofs.lemmas.List.{map-set}
use Rattle.chain.proofs.Slots.{values_kept, write_node}
use Rattle.chain.proofs.changes.point.Goals as goal

pub returns-else-node-eq0 : goal.returns-else-node-eq0
returns-else-node-eq0 g c = record {
  pointers = ap (λ n. c.args.heads.now ++ n) (map-set (λ x. x.next) c.args.cells.now (c.args.node - 1) _) ∙ write_node c.args.heads.now (map (λ x. x.next) c.args.cells.now) c.args.chain c.args.node c.args.target (omega arith);
  values = values_kept c.args.cells.now (c.args.node - 1) c.args.target c.index-cells-node.result (omega (arith, c.requires.node));
}
