use Rattle.std.proofs.Common.{Ok, sym, ap, ◌∙◌, inl, inr}
use Rattle.classes.specs.declared.Class.TheVariants.{Letter, Digit, Sign, Twin, Blank, Other}
use Rattle.lexer.specs.Tokens.{lexeme, sign}
use Rattle.lexer.proofs.Next.{front_class}
use Rattle.lexer.proofs.token.Part.token.Goals as goal

pub returns-in-Letter : goal.returns-in-Letter
returns-in-Letter c = ap Ok c.word.ensures ∙ sym (front_class _ _ Letter c.in-Letter.ensures)

pub returns-in-Digit : goal.returns-in-Digit
returns-in-Digit c = c.number.ensures ∙ sym (front_class _ _ Digit c.in-Digit.ensures)

pub returns-in-Sign : goal.returns-in-Sign
returns-in-Sign c =
    (λ i. Ok (lexeme (sign (c.sign_of.ensures i)) (c.front.ensures.bytes i) (c.front.ensures.place i)))
    ∙ sym (front_class _ _ Sign c.in-Sign.ensures)

pub returns-in-Twin : goal.returns-in-Twin
returns-in-Twin c = c.twin.ensures ∙ sym (front_class _ _ Twin c.in-Twin.ensures)

pub returns-in-Blank : goal.returns-in-Blank
returns-in-Blank c =
    elim c.in-Blank.is [
      | inl e ↦ sym (front_class _ _ Blank (sym e ∙ c.class_of.ensures))
      | inr e ↦ sym (front_class _ _ Other (sym e ∙ c.class_of.ensures))
    ]
