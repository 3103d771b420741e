use Rattle.std.proofs.Common.{rules, of_calls, refl, ◌∙◌, ap}
use Rattle.std.proofs.lemmas.Iterator.{YieldsList-from_slice, YieldsList-from_map}
use Rattle.std.proofs.lemmas.Iterator.Consumers.{nth_from_yields_List, YieldsList-at, YieldsList-from_filter, YieldsList-from_enumerate}
use Rattle.std.specs.List.{slice_get}
use Rattle.model.proofs.Counting.{places-picked, numbered}
use Rattle.model.proofs.statements.nth_line.Goals as goal

pub returns : goal.returns
returns g c = λ p computes.
    let lines = YieldsList-from_slice c.args.lines.now c.iter.ensures.rest in
    let counted = YieldsList-from_enumerate (YieldsList-at c.enumerate.ensures.source lines) c.enumerate.ensures.count in
    let found =
    nth_from_yields_List c.nth.result _ _ c.nth.ensures.ran
    (YieldsList-from_map _ (λ e. e.0)
    (YieldsList-at c.map.ensures.source
    (YieldsList-from_filter _ (λ e. p e.1) (YieldsList-at c.filter.ensures.source counted) c.filter.ensures.closure (λ x b q k. (search of_calls, computes x.1.now b (record { shown = x.1; shows = refl; says = search of_calls })))))
    c.map.ensures.closure (λ x r q k. search rules)) in
    let some = c.in_ok-checked_sub.ensures in
    numbered c.nth.result _ c.args.n _ some.0 some.1 (found ∙ ap (λ xs. slice_get xs c.in_ok-checked_sub.field-0) (places-picked p 0 c.args.lines.now))
