use Rattle.std.proofs.Common.{◌≡◌, ◌-◌, map, get_or, length, ap, arith, rules}
use Rattle.std.specs.Option.{MatchOption}
use Rattle.chain.proofs.Walks.{walk_step, next_read}
use Rattle.chain.proofs.nodes.NodesIterator.next.Goals as goal

pub returns-clause-steps : goal.returns-clause-steps
returns-clause-steps g c =
    let told : MatchOption c.get.result (c.map_or-self.result ≡ 0) (λ w. c.map_or-self.result ≡ w.now.next) = search rules in
    let next : c.map_or-self.result ≡ get_or (map (λ x. x.next) c.args.self.now.cells.now) (c.args.self.now.node - 1) 0 = next_read c.args.self.now.cells.now (c.args.self.now.node - 1) c.map_or-self.result c.get.result c.get.ensures.lookup told in
    walk_step c.args.self.now.left c.args.self.now.node c.map_or-self.result (map (λ x. x.next) c.args.self.now.cells.now) (omega arith) (omega arith) next

pub returns-clause-goes : goal.returns-clause-goes
returns-clause-goes g c = record { on = λ _. (tt, tt, omega (arith, ap length (returns-clause-steps g c))); keeps = tt; rests = λ _. tt }
