use Rattle.std.proofs.Common.{◌≡◌, length}
use Rattle.circles.specs.Visits.{reached_of, taken_of}
use Rattle.circles.proofs.Closed.{Visited}
use Rattle.circles.proofs.Marks.{free}
use Rattle.circles.proofs.Schema.leads_back.Given as goal

abbrev pub invariant-loop-table : goal.invariant-loop-table
invariant-loop-table l = record {
  visited : Visited l.self.tables l.self.links.now l.start (reached_of l.marks) (taken_of l.marks);
  size : length l.marks ≡ 9;
}

abbrev pub decreases-loop-table : goal.decreases-loop-table
decreases-loop-table l = free (taken_of l.marks)
