use Rattle.std.proofs.Common.{length, ap, arith}
use Rattle.chain.proofs.Elements.{nodes_few}
use Rattle.chain.proofs.Walks.{walk_nodes}
use Rattle.chain.proofs.chains.Chains.nodes.Goals as goal

pub returns-clause-order : goal.returns-clause-order
returns-clause-order g c = walk_nodes c.args.self.now.heads.now c.args.self.now.cells.now c.args.chain c.args.self.now.sound c.requires

pub returns-clause-few : goal.returns-clause-few
returns-clause-few g c = omega (arith, ap length (returns-clause-order g c), nodes_few c.args.self.now.heads.now c.args.self.now.cells.now c.args.self.now.sound c.args.chain c.requires)
