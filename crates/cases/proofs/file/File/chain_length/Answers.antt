use Rattle.std.proofs.Common.{◌∙◌, ap, length, arith, inl}
use Rattle.std.proofs.lemmas.Iterator.Consumers.{YieldsList-from_first, count_from_yields_List}
use Rattle.cases.specs.Trails.{trail_left}
use Rattle.cases.proofs.Walks.{trail_short, trail_length}
use Rattle.cases.proofs.file.File.chain_length.Goals as goal

pub count-requires-clause-fits : goal.count-requires-clause-fits
count-requires-clause-fits c =
    let few = trail_short c.args.self.now.bytes.now c.args.self.now.records c.args.self.now.records c.args.head in
    let is = ap length c.trail.ensures in
    let small = c.args.self.now.few in
    inl (omega arith)

pub returns : goal.returns
returns c =
    count_from_yields_List c.trail.result c.count.result c.count.ensures.ran (YieldsList-from_first (λ h. h) trail_left _ c.trail.ensures)
    ∙ trail_length c.args.self.now.bytes.now c.args.self.now.records c.args.self.now.records c.args.head
