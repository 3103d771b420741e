-- What a walk along a chain still yields.
use Rattle.std.specs.Prelude.{ℕ, List}
use Rattle.cases.specs.declared.chains.Trail.{Trail}
use Rattle.cases.specs.Chains.{trail}

abbrev pub trail_left : Trail → List (ℕ × ℕ)
trail_left t = trail t.file.bytes.now t.file.records t.left t.word
