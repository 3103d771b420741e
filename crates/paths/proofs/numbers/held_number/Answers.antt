use Rattle.std.proofs.Common.{◌≡◌, ◌+◌, ◌-◌, ◌*◌, ◌^◌, min, refl, ap, ◌∙◌, arith, rules}
use Rattle.std.proofs.lemmas.Fn.{fold_over, slice_gives, fronts}
use Rattle.paths.specs.Marks.{held_number}
use Rattle.paths.specs.Reading.{value_of}
use Rattle.paths.proofs.Numerals.{value_push}
use Rattle.paths.proofs.numbers.held_number.Goals as goal

pub returns : goal.returns
unfolding value_of
returns c =
    let all = fold_over fronts (λ y. y.now) _ (λ ds v. v ≡ held_number (value_of ds)) _ (λ ds a x b f' before k.
    let longer : b ≡ min (min (min (a * 10) (2 ^ 32 - 1) + (x.now - 48)) (2 ^ 32 - 1)) 1000000 = search rules in
    let push = value_push ds x.now in
    (omega arith, refl)) c.iter.result c.iter.result.rest.now 0 c.fold.result (slice_gives c.iter.result) refl c.fold.ensures.ran in
    all ∙ ap (λ l. held_number (value_of l)) c.iter.ensures.rest
