use Rattle.std.proofs.Common.{inl, arith}
use Rattle.chain.proofs.chains.Chains.count.Goals as goal

pub count-requires-clause-fits : goal.count-requires-clause-fits
count-requires-clause-fits g c = inl (omega (arith, c.nodes.ensures.few))
