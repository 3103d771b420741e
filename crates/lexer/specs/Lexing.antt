-- The token at a place of a text.
use Rattle.std.specs.Prelude.{ℕ, ◌+◌, cond, List, [], ◌∷◌, take, drop, Some, None, Ok, Err, Option, Result, ◌==◌, slice_index}
use Rattle.faults.specs.declared.Fault.{Fault}
use Rattle.faults.specs.declared.Fault.TheVariants.{NoToken}
use Rattle.classes.specs.Bytes.{class_of}
use Rattle.classes.specs.declared.Class.{Class}
use Rattle.classes.specs.declared.Class.TheVariants.{Other, Blank, Letter, Digit, Sign, Twin}
use Rattle.lexer.specs.Runs.{Blanks, Word, Digits}
use Rattle.lexer.specs.declared.keywords.Keyword.{Keyword}
use Rattle.lexer.specs.Runs.{reach_of}
use Rattle.lexer.specs.Keywords.{keyword_of}
use Rattle.lexer.specs.Signs.{sign_of, twin_of}
use Rattle.lexer.specs.Numbers.{number_of}
use Rattle.lexer.specs.Tokens.{Kind, name, number, keyword, sign, Lexeme, lexeme, after}

-- A word is a keyword or a name.
abbrev pub word_kind : Option Keyword → Kind
word_kind None = name
word_kind (Some k) = keyword k

abbrev pub word_token : List ℕ → ℕ → Lexeme
word_token word place = lexeme (word_kind (keyword_of word)) word place

-- A run of digits is one number, or no token.
abbrev pub number_token : Option ℕ → List ℕ → ℕ → Result Lexeme Fault
number_token None digits place = Err (NoToken place)
number_token (Some n) digits place = Ok (lexeme (number n) digits place)

-- A twin is a sign with another such byte behind it, and alone it is no token.
abbrev pub twin_token : List ℕ → ℕ → Result Lexeme Fault
twin_token [] place = Err (NoToken place)
twin_token (b ∷ []) place = Err (NoToken place)
twin_token (b ∷ c ∷ _) place = cond (b == c) (Ok (lexeme (sign (twin_of b)) (b ∷ c ∷ []) place)) (Err (NoToken place))

-- The token at the front of some bytes, by the class of the first; its place is given.
abbrev pub class_token : Class → List ℕ → ℕ → Result Lexeme Fault
class_token Letter s place = Ok (word_token (take (reach_of Word s) s) place)
class_token Digit s place = number_token (number_of (take (reach_of Digits s) s)) (take (reach_of Digits s) s) place
class_token Sign s place = Ok (lexeme (sign (sign_of (slice_index s 0))) (take 1 s) place)
class_token Twin s place = twin_token s place
class_token Blank s place = Err (NoToken place)
class_token Other s place = Err (NoToken place)

unfoldable pub front_token : List ℕ → ℕ → Result Lexeme Fault
front_token s place = class_token (class_of (slice_index s 0)) s place

-- A token that has been found.
abbrev pub found : Result Lexeme Fault → Result (Option Lexeme) Fault
found (Ok t) = Ok (Some t)
found (Err f) = Err f

-- The token at the front, or none where the text has ended.
abbrev pub or_end : List ℕ → ℕ → Result (Option Lexeme) Fault
or_end [] place = Ok None
or_end (b ∷ s) place = found (front_token (b ∷ s) place)

-- The next token in the bytes from a place on, past the blanks there.
unfoldable pub next_from : List ℕ → ℕ → Result (Option Lexeme) Fault
next_from s at = or_end (drop (reach_of Blanks s) s) (at + reach_of Blanks s)

-- The next token of a text from a place on.
abbrev pub next_token : List ℕ → ℕ → Result (Option Lexeme) Fault
next_token text at = next_from (drop at text) at

-- A token with the place after it.
abbrev pub end_of : Option Lexeme → Option (Lexeme × ℕ)
end_of None = None
end_of (Some t) = Some (t, after t)

abbrev pub with_end : Result (Option Lexeme) Fault → Result (Option (Lexeme × ℕ)) Fault
with_end (Ok o) = Ok (end_of o)
with_end (Err f) = Err f
