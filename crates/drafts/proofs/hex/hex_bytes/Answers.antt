use Rattle.std.proofs.Common.{rules}
use Rattle.drafts.proofs.Pairs.{pair_more}
use Rattle.drafts.proofs.hex.hex_bytes.Goals as goal

pub loop-pair-preserved : goal.loop-pair-preserved
loop-pair-preserved c = search (rules, pair_more)
