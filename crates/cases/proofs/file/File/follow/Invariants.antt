use Rattle.std.proofs.Common.{◌≡◌}
use Rattle.cases.specs.Chains.{trail_from, met}
use Rattle.cases.specs.Trails.{trail_left}
use Rattle.cases.proofs.Walks.{IsTrail}
use Rattle.cases.proofs.file.File.follow.Given as goal

abbrev pub invariant-loop-word : goal.invariant-loop-word
invariant-loop-word l =
    (goal.iterator-loop-word).can_next l.word-iterator
    × (goal.iterator-loop-word).is_finite l.word-iterator
    × IsTrail l.self.bytes.now l.self.records (trail_left l.word-iterator)
    × (met l.initial.noted (trail_from l.self.bytes.now l.self.records l.head) ≡ met l.noted (trail_left l.word-iterator))
