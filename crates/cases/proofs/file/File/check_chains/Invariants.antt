use Rattle.std.proofs.Common.{◌≡◌, ◌-◌}
use Rattle.cases.specs.Chains.{met, trails, none_met}
use Rattle.cases.proofs.file.File.check_chains.Given as goal

abbrev pub invariant-loop-head : goal.invariant-loop-head
invariant-loop-head l = met none_met (trails l.self.bytes.now l.self.records 1 18) ≡ met l.noted (trails l.self.bytes.now l.self.records l.head (19 - l.head))
