use Rattle.std.proofs.Common.{◌≡◌, ◌+◌, ◌<◌, length, get_or, drop, sym, ap, ◌∙◌, arith, rules}
use Rattle.std.proofs.lemmas.Grind.{common_steps}
use mathlib.Core.Option.{none}
use Rattle.paths.specs.Reading.{letter_by, mark_by}
use Rattle.paths.proofs.Decoding.{read_at}
use Rattle.paths.proofs.read.read_mark.Goals as goal

pub returns-in_default-from : goal.returns-in_default-from
returns-in_default-from c =
    let lt : c.args.at < length c.args.line.now = search rules in
    let same : get_or c.args.line.now c.args.at 0 ≡ c.from.result = grind (arith, common_steps) in
    let other : letter_by c.from.result ≡ none = search rules in
    sym (read_at c.args.line.now c.args.at lt ∙ ap (λ o. mark_by o (drop (c.args.at + 1) c.args.line.now) c.args.at) (ap letter_by same ∙ other))
