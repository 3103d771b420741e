-- A text as its reader sees it: tokens with blanks between them.
use Rattle.std.specs.Prelude.{◌≡◌, ℕ, ◌+◌, ◌<◌, ◌≤◌, Bool, true, false, not, ◌&&◌, ◌⊎◌, List, [], ◌∷◌, ◌++◌, map, length, Some, Ok, Err, Result}
use Rattle.std.specs.List.{between}
use Rattle.faults.specs.declared.Fault.{Fault}
use Rattle.faults.specs.declared.Fault.TheVariants.{ModelTooLong, NoToken, Memory}
use Rattle.classes.specs.Bytes.{is_blank}
use Rattle.lexer.specs.Runs.{Word, Digits}
use Rattle.lexer.specs.Runs.{goes}
use Rattle.lexer.specs.Tokens.{Kind, name, number, keyword, sign, Lexeme, lexeme, after}
use Rattle.lexer.specs.Lexing.{front_token, next_token}

-- All of some bytes are blanks.
abbrev pub blank : List ℕ → Bool
blank [] = true
blank (b ∷ s) = is_blank b && blank s

-- A byte that would go on with a token: a letter or a digit with a name or a keyword, a digit with a number, nothing with a sign.
abbrev pub extends : Kind → ℕ → Bool
extends name b = goes Word b
extends (keyword k) b = goes Word b
extends (number n) b = goes Digits b
extends (sign s) b = false

-- A token is maximal before these bytes: the first of them does not go on with it.
abbrev pub maximal : Kind → List ℕ → Bool
maximal kind [] = true
maximal kind (b ∷ s) = not (extends kind b)

-- The bytes from a place on begin with blanks, a maximal token behind them, and a rest; alone, the token's bytes are that token.
pub record Begins (s : List ℕ) (at : ℕ) (t : Lexeme) (rest : List ℕ) : Type 0 where
  pub gap : List ℕ
  pub whole : s ≡ gap ++ (t.bytes ++ rest)
  pub blanks : blank gap ≡ true
  pub placed : t.place ≡ at + length gap
  pub spelled : front_token t.bytes t.place ≡ Ok t
  pub ends : maximal t.kind rest ≡ true

-- The bytes from a place on are these tokens, with blanks before, between and behind them, and nothing else.
abbrev pub Laid : List ℕ → ℕ → List Lexeme → Type 0
Laid s at [] = blank s ≡ true
Laid s at (t ∷ ts) = (rest : List ℕ) × Begins s at t rest × Laid rest (after t) ts

-- The next token from a place on: only blanks lie before it, it is one byte or more of the text, and ends inside it.
pub record Advances (text : List ℕ) (at : ℕ) (t : Lexeme) : Type 0 where
  pub blanks : blank (between at t.place text) ≡ true
  pub bytes : t.bytes ≡ between t.place (after t) text
  pub onward : at ≤ t.place
  pub some : t.place < after t
  pub within : after t ≤ length text

-- From one place to another a text is cut into these tokens: each is the next one from the end of the token before it.
abbrev pub Cut : List ℕ → ℕ → List Lexeme → ℕ → Type 0
Cut text from [] to = from ≡ to
Cut text from (t ∷ ts) to = (next_token text from ≡ Ok (Some t)) × Cut text (after t) ts to

-- After some tokens, no token stands at this place of a text.
abbrev pub Broken : List ℕ → ℕ → Type 0
Broken text place = (ts : List Lexeme) × (to : ℕ) × Cut text 0 ts to × (next_token text to ≡ Err (NoToken place))

-- A text of at most 16,384 bytes has the tokens that it is laid out as; one that is longer is refused before all else,
-- and one that breaks off is refused where it does. Want of memory tells nothing of the text.
abbrev pub Answers : List ℕ → Result (List Lexeme) Fault → Type 0
Answers text (Ok ts) = (length text ≤ 16384) × Laid text 0 ts
Answers text (Err f) =
    ((f ≡ ModelTooLong) × (16384 < length text))
    ⊎ ((length text ≤ 16384) × (place : ℕ) × (f ≡ NoToken place) × Broken text place)
    ⊎ ((length text ≤ 16384) × (f ≡ Memory))

-- The bytes begin with a blank, or have ended.
abbrev pub apart : List ℕ → Bool
apart [] = true
apart (b ∷ s) = is_blank b

-- Two texts differ only in the blanks between these tokens: where blanks parted two tokens, blanks still part them.
abbrev pub Respaced : List ℕ → List ℕ → List Lexeme → Type 0
Respaced s s' [] = (blank s ≡ true) × (blank s' ≡ true)
Respaced s s' (t ∷ ts) =
    (gap : List ℕ) × (gap' : List ℕ) × (rest : List ℕ) × (rest' : List ℕ)
    × (s ≡ gap ++ (t.bytes ++ rest)) × (s' ≡ gap' ++ (t.bytes ++ rest'))
    × (blank gap ≡ true) × (blank gap' ≡ true)
    × (apart rest ≡ true → apart rest' ≡ true)
    × Respaced rest rest' ts

-- A token apart from its place.
abbrev pub unplaced : Lexeme → Lexeme
unplaced t = lexeme t.kind t.bytes 0

-- Another text has the same tokens, places aside.
abbrev pub SameTokens : List Lexeme → List ℕ → Type 0
SameTokens ts text = (us : List Lexeme) × Laid text 0 us × (map unplaced us ≡ map unplaced ts)
