-- What it is that a text has a term from a place on, and that the reader accepts just these.
use Rattle.std.specs.Prelude.{◌≡◌, ℕ, ◌≤◌, Bool, true, false, ◌||◌, List, [], ◌∷◌, Some, None, Ok, Err, Option, Result}
use Rattle.faults.specs.declared.Fault.{Fault}
use Rattle.lexer.specs.declared.signs.Sign.TheVariants.{Open, Dot}
use Rattle.lexer.specs.Tokens.{Kind, Lexeme, after}
use Rattle.lexer.specs.Tokens as kind
use Rattle.lexer.specs.Lexing.{next_token}
use Rattle.terms.specs.declared.shapes.Shape.{Shape}
use Rattle.terms.specs.declared.shapes.Want.{Want}
use Rattle.terms.specs.Pull.{word_of, is_sign}
use Rattle.terms.specs.Shapes.{serves}
use Rattle.terms.specs.Terms.{term_at}
use Rattle.terms.specs.Trees.{Token, name, number, keyword, sign, Tree, literal, lone, head, cell, truth, is_nil, only, pair, words_of, shape_of, Sound, depth_of}

-- A token of a text apart from its place.
abbrev pub token_by : Kind → List ℕ → Token
token_by kind.name s = name s
token_by (kind.number n) s = number n
token_by (kind.keyword k) s = keyword k
token_by (kind.sign g) s = sign g

abbrev pub token_of : Lexeme → Token
token_of t = token_by t.kind t.bytes

-- From a place on, up to another, a text has just these tokens: each is the next one from the end of the token before it.
abbrev pub Stands : List ℕ → ℕ → List Token → ℕ → Type 0
Stands text at [] end = at ≡ end
Stands text at (w ∷ ws) end = (t : Lexeme) × (next_token text at ≡ Ok (Some t)) × (token_of t ≡ w) × Stands text (after t) ws end

-- A sound term with at most so many brackets, one in another, that serves what is wanted, stands in a text.
pub record Term (text : List ℕ) (d : ℕ) (want : Want) (at : ℕ) (t : Tree) (end : ℕ) : Type 0 where
  pub stands : Stands text at (words_of t) end
  pub sound : Sound t
  pub shallow : depth_of t ≤ d
  pub served : serves want (shape_of t) ≡ true

-- A token that goes on with a lone name: . or (
abbrev pub goes_on : Result (Option Lexeme) Fault → Bool
goes_on (Ok (Some t)) = is_sign Dot (word_of t.kind) || is_sign Open (word_of t.kind)
goes_on (Ok None) = false
goes_on (Err f) = false

-- A term ends at a place: where it is a lone name, no token there goes on with it. Any other term ends by itself.
abbrev pub Ends : List ℕ → Tree → ℕ → Type 0
Ends text (lone v) end = goes_on (next_token text end) ≡ false
Ends text (literal n) end = Unit {0}
Ends text (head v) end = Unit {0}
Ends text (cell v a) end = Unit {0}
Ends text (truth b) end = Unit {0}
Ends text (is_nil v) end = Unit {0}
Ends text (only s t) end = Unit {0}
Ends text (pair s l r) end = Unit {0}

-- What is accepted is a term that the text has there.
abbrev pub Accepts : Type 0
Accepts =
    (text : List ℕ) (d : ℕ) (want : Want) (at : ℕ) (sh : Shape) (end : ℕ) → term_at text d want at ≡ Ok (sh, end)
    → (t : Tree) × (shape_of t ≡ sh) × Term text d want at t end × Ends text t end

-- Every term that the text has there is accepted.
abbrev pub Completes : Type 0
Completes =
    (text : List ℕ) (d : ℕ) (want : Want) (at : ℕ) (t : Tree) (end : ℕ) → Term text d want at t end → Ends text t end
    → term_at text d want at ≡ Ok (shape_of t, end)
