use Rattle.std.proofs.Common.{◌+◌, min, ap, ◌∙◌, rules}
use Rattle.meaning.specs.Evaluation.{cut}
use Rattle.cases.specs.Meaning.{values}
use Rattle.cases.proofs.Rows.{row_made}
use Rattle.cases.proofs.view.row_of.Goals as goal

pub returns : goal.returns
returns c =
    let b = c.args.bytes.now in
    let w = c.record_at.result + 1 in
    row_made _ _ b w c.args.width 8 (λ i y q k. search rules) c.from_fn.result c.from_fn.ensures.items
    ∙ ap (λ r. cut 8 (values b (r + 1) (min c.args.width 8))) c.record_at.ensures
