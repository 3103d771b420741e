use Rattle.std.proofs.Common.{◌≡◌, ℕ, ◌+◌, ◌<◌, map, get_or}
use Rattle.chain.specs.Lists.{up_to}
use Rattle.chain.proofs.cells.link_all.Given as goal

abbrev pub invariant-loop-i : goal.invariant-loop-i
invariant-loop-i g l = (k : ℕ) → k < l.i → get_or (map (λ c. c.next) l.cells) k 0 ≡ get_or (up_to l.n) (k + 1) 0
