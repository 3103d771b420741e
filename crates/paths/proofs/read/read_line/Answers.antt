use Rattle.std.proofs.Common.{◌≡◌, ◌<◌, ◌≤◌, length, get_or, vec_items, sym, refl, ◌∙◌, inr, arith}
use Rattle.std.proofs.lemmas.Grind.{common_steps}
use Rattle.std.proofs.lemmas.Result.{err_from_is_err_and}
use Rattle.paths.proofs.Laws.{reached_more, reached_all, end_within, breaks_mark, breaks_many, breaks_space}
use Rattle.paths.proofs.read.read_line.Goals as goal

pub returns-in_err-mark : goal.returns-in_err-mark
returns-in_err-mark c =
    let p = err_from_is_err_and c.from_residual.result c.from_residual.ensures.1 in
    let few = c.loop-marks.marks.ok.0 in
    rw (p.1, p.2) (inr (breaks_mark c.args.line.now (vec_items c.loop-marks.marks) c.loop-marks.at c.in_err-mark.field-0.0 c.loop-marks.invariant.0 c.requires (omega arith) (sym c.in_err-mark.ensures)))

pub returns-in-None : goal.returns-in-None
returns-in-None c =
    let few = c.loop-marks.marks.ok.0 in
    let w = end_within c.args.line.now c.loop-marks.at (c.in_ok-mark.mark, c.in_ok-mark.end) c.loop-marks.invariant.0.within (sym c.in_ok-mark.ensures) in
    let past : length c.args.line.now ≤ c.in_ok-mark.end = c.in-None.ensures.lookup.3 in
    let all = reached_all c.args.line.now (vec_items c.loop-marks.marks) c.loop-marks.at (c.in_ok-mark.mark, c.in_ok-mark.end) c.loop-marks.invariant.0 (sym c.in_ok-mark.ensures) (omega arith) (omega arith) in
    (all.0, all.1, c.in_ok-push.ensures.items ∙ all.2)

pub loop-marks-preserved : goal.loop-marks-preserved
loop-marks-preserved c =
    let lt : c.in_ok-mark.end < length c.args.line.now = grind (arith, common_steps) in
    let space : get_or c.args.line.now c.in_ok-mark.end 0 ≡ 32 = grind (arith, common_steps) in
    let more = reached_more c.args.line.now (vec_items c.loop-marks.marks) c.loop-marks.at (c.in_ok-mark.mark, c.in_ok-mark.end) c.loop-marks.invariant.0 (sym c.in_ok-mark.ensures) lt space in
    let long = c.in_ok-push.ensures.len in
    (rw c.in_ok-push.ensures.items more, omega arith)

pub returns-in-Some : goal.returns-in-Some
returns-in-Some c =
    let few = c.loop-marks.marks.ok.0 in
    let lt : c.in_ok-mark.end < length c.args.line.now = grind (arith, common_steps) in
    let other : get_or c.args.line.now c.in_ok-mark.end 0 ≡ 32 → ⊥ = grind (arith, common_steps) in
    inr (c.in_ok-mark.end, refl, breaks_space c.args.line.now (vec_items c.loop-marks.marks) c.loop-marks.at (c.in_ok-mark.mark, c.in_ok-mark.end) c.loop-marks.invariant.0 c.requires (omega arith) (sym c.in_ok-mark.ensures) lt other)

pub returns : goal.returns
returns c =
    let few = c.loop-marks.marks.ok.0 in
    inr (c.loop-marks.at, refl, breaks_many c.args.line.now (vec_items c.loop-marks.marks) c.loop-marks.at c.loop-marks.invariant.0 c.requires (omega arith) (omega arith))
