-- What a token is, apart from the memory that it borrows.
use Rattle.std.specs.Prelude.{ℕ, ◌+◌, List, map, length, Some, None, Ok, Err, vec_items, Option, Result}
use Rattle.std.specs.Global.{Vec}
use Rattle.faults.specs.declared.Fault.{Fault}
use Rattle.lexer.specs.declared.keywords.Keyword.{Keyword}
use Rattle.lexer.specs.declared.signs.Sign.{Sign}
use Rattle.lexer.specs.declared.token.Part.{Part}
use Rattle.lexer.specs.declared.token.Token.{Token}
use Rattle.lexer.specs.declared.token.Token.TheVariants as variant

-- What a token stands for.
pub data Kind : Type 0 where
  name : Kind
  number : ℕ → Kind
  keyword : Keyword → Kind
  sign : Sign → Kind

-- A token: what it stands for, the bytes that it is, and the place of the first of them.
pub record Lexeme : Type 0 where
  pub kind : Kind
  pub bytes : List ℕ
  pub place : ℕ

abbrev pub lexeme : Kind → List ℕ → ℕ → Lexeme
lexeme k s p = record { kind = k; bytes = s; place = p }

-- The place after its last byte.
abbrev pub after : Lexeme → ℕ
after t = t.place + length t.bytes

-- What the code's tokens, and its answers that hold one, say.
abbrev pub part_as : Kind → Part → Lexeme
part_as k p = lexeme k p.bytes.now p.place

abbrev pub lexeme_of : Token → Lexeme
lexeme_of (variant.Name p) = part_as name p
lexeme_of (variant.Number p n) = part_as (number n) p
lexeme_of (variant.Keyword p k) = part_as (keyword k) p
lexeme_of (variant.Sign p s) = part_as (sign s) p

abbrev pub front_read : Result Token Fault → Result Lexeme Fault
front_read (Ok t) = Ok (lexeme_of t)
front_read (Err f) = Err f

-- The next token with the place after it, or the end of the text.
abbrev pub option_read : Option (Token × ℕ) → Option (Lexeme × ℕ)
option_read None = None
option_read (Some n) = Some (lexeme_of n.0, n.1)

abbrev pub next_read : Result (Option (Token × ℕ)) Fault → Result (Option (Lexeme × ℕ)) Fault
next_read (Ok o) = Ok (option_read o)
next_read (Err f) = Err f

-- The tokens of a whole text.
abbrev pub lexemes : Vec Token → List Lexeme
lexemes v = map lexeme_of (vec_items v)

abbrev pub all_read : Result (Vec Token) Fault → Result (List Lexeme) Fault
all_read (Ok v) = Ok (lexemes v)
all_read (Err f) = Err f
