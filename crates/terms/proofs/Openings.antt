-- What an opening bracket leads to, by how many may still be opened.
use Rattle.std.proofs.Common.{◌≡◌, ℕ, zero, suc, List, Ok, Err, sym, ap, ◌∙◌}
use Rattle.faults.specs.declared.Fault.{Fault}
use Rattle.faults.specs.declared.Fault.TheVariants.{LimitPassed}
use Rattle.lexer.specs.declared.signs.Sign.TheVariants.{Open}
use Rattle.terms.specs.declared.pull.Word.TheVariants.{Sign}
use Rattle.terms.specs.declared.pull.Pulled.{Pulled}
use Rattle.terms.specs.declared.shapes.Want.{Want}
use Rattle.terms.specs.Pull.{and_then, pulled, taken_from}
use Rattle.terms.specs.Terms.{opened, begins, opening, term_at}
use Rattle.terms.proofs.Steps.{never}

module _ (text : List ℕ) (want : Want) (at : ℕ) (p : Pulled) (came : Ok p ≡ pulled text at) (is : p.word ≡ Sign Open) where
  at_bracket : (d : ℕ) → opening text d want p ≡ term_at text d want at
  at_bracket d =
      sym (ap (λ r. and_then r (λ q. begins text (opening text d) want q q.word)) (sym came) ∙ ap (begins text (opening text d) want p) is)

  -- No more may be opened.
  pub bracket_none : (d : ℕ) (f : Fault) → Err f ≡ taken_from d p → Err f ≡ term_at text d want at
  unfolding opening
  bracket_none zero f h = let e : f ≡ LimitPassed p.place = cc in ap Err e ∙ at_bracket zero
  bracket_none (suc d) f h = absurd (never h)

  -- So many more may be opened inside.
  pub bracket_more : (d n : ℕ) → Ok n ≡ taken_from d p → opened text (term_at text n) want p.end ≡ term_at text d want at
  unfolding opening
  bracket_more zero n h = absurd (never (sym h))
  bracket_more (suc d) n h = let e : n ≡ d = cc in ap (λ k. opened text (term_at text k) want p.end) e ∙ at_bracket (suc d)
