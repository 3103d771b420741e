-- An element of a list, and a comma with one more, end further on in the text.
use Rattle.std.proofs.Common.{◌≡◌, ℕ, ◌-◌, ◌<◌, ◌≤◌, List, ◌∷◌, length, Some, Ok, subst, arith}
use Rattle.lexer.specs.Tokens.{after}
use Rattle.lexer.proofs.Laws.{next_advances}
use Rattle.terms.specs.declared.shapes.Want.TheVariants as want
use Rattle.terms.specs.Trees.{Token}
use Rattle.terms.proofs.Completing.{begun}
use Rattle.syntax.specs.declared.clauses.Element.{Element}
use Rattle.syntax.specs.declared.clauses.Element.TheVariants.{Attribute, Value}
use Rattle.syntax.specs.Clauses.{element_at, element_behind}
use Rattle.syntax.proofs.Runs.{Run, bytes_used, name_last, term_last}
use Rattle.syntax.proofs.Parts.{element_came}

-- One token or more takes a byte or more, and ends within the text.
pub record Onward (text : List ℕ) (at e : ℕ) : Type 0 where
  pub some : at < e
  pub within : e ≤ length text

run_onward : (text : List ℕ) (at e : ℕ) (w : Token) (ws : List Token) → Run text at (w ∷ ws) e → Onward text at e
run_onward text at e w ws r =
    let s = r.stands in
    let a = next_advances text at s.0 s.1 in
    let more = bytes_used text (after s.0) e ws s.3 a.within in
    let on = a.onward in
    let some = a.some in
    record { some = omega arith; within = more.1 }

pub element_onward : (text : List ℕ) (el : Element) (at e : ℕ) → element_at text el at ≡ Ok e → Onward text at e
element_onward text Attribute at e h = let n = name_last text at e h in run_onward text at e _ _ n.1
element_onward text Value at e h =
    let t = term_last text want.Value at e h in
    run_onward text at e _ _ (subst (λ ws. Run text at ws e) (begun t.0).is t.2)

pub element_less : (text : List ℕ) (el : Element) (at e : ℕ) → element_behind text el at ≡ Ok (Some e) → length text - e < length text - at
element_less text el at e h =
    let c = element_came text el at e h in
    let comma = run_onward text at c.0 _ _ c.1 in
    let more = element_onward text el c.0 e c.2 in
    let before = comma.some in
    let some = more.some in
    let within = more.within in
    omega arith
