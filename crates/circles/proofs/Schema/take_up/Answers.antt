use Rattle.std.proofs.Common.{◌<◌, length, get_or, set, take, arith, refl, subst, ap, ◌∙◌}
use Rattle.std.proofs.lemmas.List.{take_more, take_all, length-map, length-set}
use Rattle.std.proofs.Math.Seq.{map-set_same}
use Rattle.circles.specs.declared.Link.{Link}
use Rattle.circles.specs.declared.Mark.TheVariants.{Unseen}
use Rattle.circles.specs.Visits.{Marked, is_reached, is_taken, reached_of, taken_of}
use Rattle.circles.proofs.Marks.{marked_none, marked_past, marked_more}
use Rattle.circles.proofs.Steps.{now_true}
use Rattle.circles.proofs.Schema.take_up.Goals as goal
use Rattle.circles.proofs.Schema.take_up.Goals.{then-follows, else-follows}

pub loop-link-init : goal.loop-link-init
loop-link-init c =
    record {
      reached = marked_none c.args.self.now.tables c.args.table (reached_of (set c.args.marks.now c.args.table c.taken_up.result));
      taken = refl;
      size = omega (arith, c.told-marks, length-set c.args.marks.now c.args.table c.taken_up.result);
    }

pub returns : goal.returns
returns c =
    let marks = c.args.marks.now in
    let links = c.args.self.now.links.now in
    let all = take_all c.loop-link.link-index links (omega arith) in
    let same = map-set_same is_reached marks c.args.table c.taken_up.result Unseen c.taken_up.ensures.0 in
    let tables = c.args.self.now.tables in
    let next = reached_of c.loop-link.marks in
    let seen = subst (λ ls. Marked tables ls c.args.table (reached_of (set marks c.args.table c.taken_up.result)) next) all c.loop-link.invariant.reached in
    record {
      marks = subst (λ before. Marked tables links c.args.table before next) same seen;
      takes = c.loop-link.invariant.taken ∙ now_true is_taken marks c.args.table c.taken_up.result c.taken_up.ensures.1;
    }

pub loop-link-preserved : goal.loop-link-preserved
loop-link-preserved c =
    let schema = c.args.self.now in
    let i = c.loop-link.link-index in
    let none : Link = record { from = 0; to = 0 } in
    let link = get_or schema.links.now i none in
    let more = take_more schema.links.now i none c.loop-link-test.true in
    let so_far = c.loop-link.invariant in
    let marks = c.loop-link.marks in
    elim c.if-follows.branch [
      | then-follows w ↦
          let fits : link.to < length (reached_of marks) = omega (arith, w.if-follows.ensures.2.2, so_far.size, length-map marks is_reached) in
          let told = marked_more schema.tables (take i schema.links.now) c.args.table (reached_of (set c.args.marks.now c.args.table c.taken_up.result)) (reached_of marks) link so_far.reached w.if-follows.ensures fits in
          record {
            reached = simp (more, w.marks-is, now_true is_reached marks link.to w.led_to.result w.led_to.ensures.0) told;
            taken = ap taken_of w.marks-is ∙ map-set_same is_taken marks link.to w.led_to.result Unseen w.led_to.ensures.1 ∙ so_far.taken;
            size = c.if-follows.array_long;
          }
      | else-follows w ↦
          let told = marked_past schema.tables (take i schema.links.now) c.args.table (reached_of (set c.args.marks.now c.args.table c.taken_up.result)) (reached_of marks) link so_far.reached w.if-follows.ensures in
          record { reached = simp (more, w.marks-is) told; taken = ap taken_of w.marks-is ∙ so_far.taken; size = c.if-follows.array_long }
    ]
