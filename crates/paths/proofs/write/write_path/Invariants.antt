use Rattle.std.proofs.Common.{◌≡◌, map, take, string_bytes}
use Rattle.paths.specs.Marks.{mark_of}
use Rattle.paths.specs.Spelling.{spelled}
use Rattle.paths.proofs.write.write_path.Given as goal

abbrev pub invariant-loop-i : goal.invariant-loop-i
invariant-loop-i l = string_bytes l.text ≡ spelled (map mark_of (take l.i l.marks))
