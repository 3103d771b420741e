use Rattle.std.proofs.Common.{◌^◌, ◌<◌, sym, rules}
use Rattle.paths.proofs.Numerals.{decimal_numeral}
use Rattle.paths.proofs.mark.MarkDisplay.fmt.Goals as goal

pub returns-in-F-clause-writes : goal.returns-in-F-clause-writes
returns-in-F-clause-writes g c =
    let small : c.in-F.number < 2 ^ 64 = search rules in
    rw (c.in-F.is, sym (decimal_numeral c.in-F.number small)) c.write.ensures.writes

pub returns-in-C-clause-writes : goal.returns-in-C-clause-writes
returns-in-C-clause-writes g c =
    let small : c.in-C.number < 2 ^ 64 = search rules in
    rw (c.in-C.is, sym (decimal_numeral c.in-C.number small)) c.write-in-C.ensures.writes

pub returns-in-D-clause-writes : goal.returns-in-D-clause-writes
returns-in-D-clause-writes g c =
    let small : c.in-D.number < 2 ^ 64 = search rules in
    rw (c.in-D.is, sym (decimal_numeral c.in-D.number small)) c.write-in-D.ensures.writes
