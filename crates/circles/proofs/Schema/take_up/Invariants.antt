use Rattle.std.proofs.Common.{◌≡◌, length, take}
use Rattle.circles.specs.Visits.{Marked, reached_of, taken_of}
use Rattle.circles.proofs.Schema.take_up.Given as goal

abbrev pub invariant-loop-link : goal.invariant-loop-link
invariant-loop-link l = record {
  reached : Marked l.self.tables (take l.link-index l.self.links.now) l.table (reached_of l.initial.marks) (reached_of l.marks);
  taken : taken_of l.marks ≡ taken_of l.initial.marks;
  size : length l.marks ≡ 9;
}
