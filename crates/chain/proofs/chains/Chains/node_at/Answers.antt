use Rattle.std.proofs.Common.{ap, ◌∙◌}
use Rattle.std.specs.Option.{unwrap_or}
use Rattle.std.proofs.lemmas.Option.{unwrap_or-slice_get}
use Rattle.chain.specs.Lists.{nodes_of}
use Rattle.chain.proofs.Walks.{nth_node}
use Rattle.chain.proofs.chains.Chains.node_at.Goals as goal

pub returns : goal.returns
returns g c =
    c.unwrap_or.ensures
    ∙ ap (λ o. unwrap_or o 0) (nth_node c.nodes.result c.nth.new.self c.nth.result c.args.position (nodes_of c.args.self.now.heads.now c.args.self.now.cells.now c.args.chain) c.nodes.ensures.order c.nth.ensures.ran)
    ∙ unwrap_or-slice_get (nodes_of c.args.self.now.heads.now c.args.self.now.cells.now c.args.chain) c.args.position 0
