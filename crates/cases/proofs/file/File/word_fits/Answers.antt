use Rattle.std.proofs.Common.{◌≡◌, ap, ◌∙◌, rules}
use Rattle.std.specs.Range.{range_inclusive_start, range_inclusive_end}
use Rattle.cases.specs.Words.{word}
use Rattle.cases.specs.Ranges.{between, range_of}
use Rattle.cases.proofs.file.File.word_fits.Goals as goal

pub returns : goal.returns
returns c =
    let b = c.args.self.now.bytes.now in
    let r = c.range_of.result in
    let inside : c.contains.result ≡ between (range_inclusive_start r, range_inclusive_end r) (word b c.args.at) = search rules in
    let ends : (range_inclusive_start r, range_inclusive_end r) ≡ range_of c.args.tables (word b 0) c.index_at-lists.result c.args.at = search rules in
    inside ∙ ap (λ e. between e (word b c.args.at)) (ends ∙ ap (λ n. range_of c.args.tables (word b 0) n c.args.at) c.index_at-lists.ensures.value)
