-- IF and WHILE by how many levels of blocks are allowed.
use Rattle.std.proofs.Common.{◌≡◌, ℕ, zero, suc, List, Ok, Err, sym, ap}
use Rattle.faults.specs.declared.Fault.{Fault}
use Rattle.faults.specs.declared.Fault.TheVariants.{LimitPassed}
use Rattle.terms.specs.declared.pull.Pulled.{Pulled}
use Rattle.terms.specs.Pull.{taken_from}
use Rattle.terms.proofs.Steps.{never}
use Rattle.syntax.specs.declared.statements.Holder.{Holder}
use Rattle.syntax.specs.Statements.{holder_at, holding, block_at}

pub holding_none : (text : List ℕ) (d : ℕ) (h : Holder) (p : Pulled) (at room : ℕ) (f : Fault) → Err f ≡ taken_from d p → Err f ≡ holding text d h p.place at room
unfolding holding
holding_none text zero h p at room f e = let k : f ≡ LimitPassed p.place = cc in ap Err k
holding_none text (suc d) h p at room f e = absurd (never e)

pub holding_more : (text : List ℕ) (d n : ℕ) (h : Holder) (p : Pulled) (at room : ℕ) → Ok n ≡ taken_from d p → holder_at text (block_at text n) h at room ≡ holding text d h p.place at room
unfolding holding
holding_more text zero n h p at room e = absurd (never (sym e))
holding_more text (suc d) n h p at room e = let k : n ≡ d = cc in ap (λ m. holder_at text (block_at text m) h at room) k
