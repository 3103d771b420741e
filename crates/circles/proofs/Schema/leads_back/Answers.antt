use Rattle.std.proofs.Common.{◌≡◌, ◌<◌, Bool, true, false, length, MatchBool, refl, ap, ◌∙◌, sym, arith}
use Rattle.std.proofs.lemmas.Bool.{false≢true}
use Rattle.std.proofs.lemmas.List.{length-map, get_or-map}
use Rattle.circles.specs.declared.Mark.TheVariants.{Unseen}
use Rattle.circles.specs.Ways.{Leads}
use Rattle.circles.specs.Visits.{is_reached, is_taken, reached_of, taken_of}
use Rattle.circles.proofs.Closed.{visited_start, visited_more, all_reached}
use Rattle.circles.proofs.Marks.{free, free_set}
use Rattle.circles.proofs.Schema.leads_back.Goals as goal

-- A mark that stands exactly for a fact decides it.
decided : (P : Type 0) (b : Bool) → (b ≡ true → P) → (P → b ≡ true) → MatchBool b P (P → ⊥)
decided P true to from = to refl
decided P false to from = λ p. false≢true (from p)

pub loop-table-init : goal.loop-table-init
loop-table-init c =
    let took = c.take_up.ensures in
    record {
      visited = visited_start c.args.self.now.tables c.args.self.now.links.now c.args.start 9 (reached_of c.take_up.new.marks) (taken_of c.take_up.new.marks) (omega arith) took.marks took.takes;
      size = c.take_up.array_long;
    }

pub loop-table-smaller : goal.loop-table-smaller
loop-table-smaller c =
    let waits = c.in-Some.ensures in
    let fits : c.in-Some.table < length (taken_of c.loop-table.marks) = omega (arith, waits.0, c.loop-table.invariant.size, length-map c.loop-table.marks is_taken) in
    omega (arith, free_set (taken_of c.loop-table.marks) c.in-Some.table fits waits.2, ap free c.take_up-in-Some.ensures.takes)

pub loop-table-preserved : goal.loop-table-preserved
loop-table-preserved c =
    let waits = c.in-Some.ensures in
    let took = c.take_up-in-Some.ensures in
    let schema = c.args.self.now in
    let marks = c.loop-table.marks in
    let next = c.take_up-in-Some.new.marks in
    let fits : c.in-Some.table < length (taken_of marks) = omega (arith, waits.0, c.loop-table.invariant.size, length-map marks is_taken) in
    record {
      visited = visited_more schema.tables schema.links.now c.args.start (reached_of marks) (taken_of marks) c.in-Some.table (reached_of next) (taken_of next) fits c.loop-table.invariant.visited waits.1 took.marks took.takes;
      size = c.take_up-in-Some.array_long;
    }

pub returns : goal.returns
returns c =
    let marks = c.loop-table.marks in
    let schema = c.args.self.now in
    let fits : c.args.start < length marks = omega (arith, c.loop-table.invariant.size, c.requires) in
    let told = c.is_reached.ensures ∙ sym (get_or-map is_reached marks c.args.start Unseen false fits) in
    decided
    (Leads schema.tables schema.links.now c.args.start c.args.start)
    c.is_reached.result
    (λ e. c.loop-table.invariant.visited.sound c.args.start (sym told ∙ e))
    (λ way. told ∙ all_reached schema.tables schema.links.now c.args.start (reached_of marks) (taken_of marks) c.loop-table.invariant.visited c.in_default.ensures c.args.start way)
