-- The form of a model, as its reader sees it: which texts spell a well-formed model.
use Rattle.std.specs.Prelude.{◌≡◌, ℕ, ◌≤◌, List, map, length}
use Rattle.lexer.specs.Tokens.{Lexeme}
use Rattle.lexer.specs.Layout.{Laid}
use Rattle.terms.specs.Grammar.{token_of}
use Rattle.syntax.specs.Trees.{Model, model_words, WellFormed}

-- A text spells a model: it is laid out as the tokens that the model is written as, with blanks between them and nothing else.
abbrev pub Spells : List ℕ → Model → Type 0
Spells text m = (ts : List Lexeme) × Laid text 0 ts × (map token_of ts ≡ model_words m)

-- A text of at most 16,384 bytes that spells a well-formed model.
abbrev pub Formed : List ℕ → Type 0
Formed text = (length text ≤ 16384) × (m : Model) × WellFormed m × Spells text m
