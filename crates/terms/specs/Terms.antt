-- Expressions and conditions in a text: what stands from a place on, and the place behind it, or the refusal.
use Rattle.std.specs.Prelude.{ℕ, zero, suc, Bool, true, false, cond, ◌&&◌, ◌||◌, List, Some, None, Ok, Err, Option, Result}
use Rattle.faults.specs.declared.Fault.{Fault}
use Rattle.faults.specs.declared.Fault.TheVariants.{NotAllowed, LimitPassed}
use Rattle.lexer.specs.declared.signs.Sign.{Sign}
use Rattle.lexer.specs.declared.signs.Sign.TheVariants.{Open, Close, Dot, Minus, Not, Equal}
use Rattle.lexer.specs.declared.keywords.Keyword.TheVariants.{Head, Nil, True, False}
use Rattle.terms.specs.declared.pull.Word.{Word}
use Rattle.terms.specs.declared.pull.Word.TheVariants as word
use Rattle.terms.specs.declared.pull.Pulled.{Pulled}
use Rattle.terms.specs.declared.shapes.Shape.{Shape}
use Rattle.terms.specs.declared.shapes.Shape.TheVariants as shape
use Rattle.terms.specs.declared.shapes.Want.{Want}
use Rattle.terms.specs.declared.shapes.Operator.{Operator}
use Rattle.terms.specs.Pull.{and_then, pulled, is_sign, is_keyword, sign_at, keyword_at, name_at}
use Rattle.terms.specs.Shapes.{operator_of, sides_of, given_by, serves, left_side, takes, inner_of, made_of}

-- A term's shape and the place behind it.
abbrev pub Read : Type 0
Read = Result (Shape × ℕ) Fault

-- A reader of the terms inside a bracket.
abbrev pub Inner : Type 0
Inner = Want → ℕ → Read

-- A closing bracket ends a term of a shape.
abbrev pub closed_as : List ℕ → Shape → ℕ → Read
closed_as text sh at = and_then (sign_at text Close at) (λ e. Ok (sh, e))

-- Behind a name: .HEAD, an attribute in brackets, or nothing that belongs to it.
abbrev pub tail_of : List ℕ → ℕ → Result Pulled Fault → Read
tail_of text at (Err f) = Ok (shape.Name, at)
tail_of text at (Ok p) =
    cond (is_sign Dot p.word) (and_then (keyword_at text Head p.end) (λ e. Ok (shape.Value, e)))
    (cond (is_sign Open p.word) (and_then (name_at text p.end) (closed_as text shape.Value))
    (Ok (shape.Name, at)))

-- An operator has to stand behind a left side, and has to take it.
abbrev pub operator_by : Want → Shape → Sign → Pulled → Option Operator → Result (Operator × Sign × ℕ) Fault
operator_by want left s p None = Err (NotAllowed p.place)
operator_by want left s p (Some o) = cond (takes want left o) (Ok (o, s, p.end)) (Err (NotAllowed p.place))

abbrev pub operator_in : Want → Shape → Pulled → Word → Result (Operator × Sign × ℕ) Fault
operator_in want left p word.Name = Err (NotAllowed p.place)
operator_in want left p (word.Number n) = Err (NotAllowed p.place)
operator_in want left p (word.Keyword k) = Err (NotAllowed p.place)
operator_in want left p (word.Sign s) = operator_by want left s p (operator_of s)

abbrev pub operator_at : List ℕ → Want → Shape → ℕ → Result (Operator × Sign × ℕ) Fault
operator_at text want left at = and_then (pulled text at) (λ p. operator_in want left p p.word)

-- NIL may stand behind a lone name and an equals sign.
abbrev pub is_lone : Shape → Bool
is_lone shape.Name = true
is_lone shape.Value = false
is_lone shape.Truth = false

abbrev pub nil_in : Result Pulled Fault → Option ℕ
nil_in (Err f) = None
nil_in (Ok p) = cond (is_keyword Nil p.word) (Some p.end) None

abbrev pub nil_behind : List ℕ → Shape → Sign → ℕ → Option ℕ
nil_behind text left s at = cond (is_lone left && is_sign Equal (word.Sign s)) (nil_in (pulled text at)) None

-- The right side of an operator: NIL, or what the operator has there.
abbrev pub right_side : List ℕ → Inner → Operator × Sign × ℕ → Option ℕ → Read
right_side text inner o (Some e) = closed_as text shape.Truth e
right_side text inner o None = and_then (inner (sides_of o.0) o.2) (λ r. closed_as text (given_by o.0) r.1)

-- A bracket with two sides.
abbrev pub binary : List ℕ → Inner → Want → ℕ → Read
binary text inner want at =
    and_then (inner (left_side want) at) (λ l.
    and_then (operator_at text want l.0 l.1) (λ o.
    right_side text inner o (nil_behind text l.0 o.1 o.2)))

-- A bracket that begins with - or !, which stands at a place.
abbrev pub unary : List ℕ → Inner → Want → Sign → ℕ → ℕ → Read
unary text inner want s place at =
    cond (serves want (made_of s)) (and_then (inner (inner_of s) at) (λ r. closed_as text (made_of s) r.1)) (Err (NotAllowed place))

-- What follows an opening bracket.
abbrev pub opened : List ℕ → Inner → Want → ℕ → Read
opened text inner want at =
    and_then (pulled text at) (λ p.
    cond (is_sign Minus p.word) (unary text inner want Minus p.place p.end)
    (cond (is_sign Not p.word) (unary text inner want Not p.place p.end)
    (binary text inner want at)))

-- A term by its first token; what an opening bracket leads to is given.
abbrev pub begins : List ℕ → (Want → Pulled → Read) → Want → Pulled → Word → Read
begins text bracketed want p word.Name = cond (serves want shape.Name) (tail_of text p.end (pulled text p.end)) (Err (NotAllowed p.place))
begins text bracketed want p (word.Number n) = cond (serves want shape.Value) (Ok (shape.Value, p.end)) (Err (NotAllowed p.place))
begins text bracketed want p (word.Keyword k) =
    cond (serves want shape.Truth && (is_keyword True (word.Keyword k) || is_keyword False (word.Keyword k))) (Ok (shape.Truth, p.end)) (Err (NotAllowed p.place))
begins text bracketed want p (word.Sign s) = cond (is_sign Open (word.Sign s)) (bracketed want p) (Err (NotAllowed p.place))

-- An opening bracket, where so many may still be opened one in another.
unfoldable pub opening : List ℕ → ℕ → Want → Pulled → Read
opening text zero want p = Err (LimitPassed p.place)
opening text (suc d) want p = opened text (λ w at. and_then (pulled text at) (λ q. begins text (opening text d) w q q.word)) want p.end

-- An expression or a condition with at most so many brackets, one in another.
abbrev pub term_at : List ℕ → ℕ → Want → ℕ → Read
term_at text d want at = and_then (pulled text at) (λ p. begins text (opening text d) want p p.word)
