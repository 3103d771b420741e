-- The form of a whole model.
use Rattle.std.specs.Prelude.{ℕ, cond, List, length, Some, None, Ok, Err, Option, Result, nat_le}
use Rattle.faults.specs.declared.Fault.{Fault}
use Rattle.faults.specs.declared.Fault.TheVariants.{ModelTooLong, NotAllowed}
use Rattle.lexer.specs.declared.keywords.Keyword.TheVariants.{Model, EndModel}
use Rattle.lexer.specs.Tokens.{Lexeme}
use Rattle.lexer.specs.Lexing.{next_token, with_end}
use Rattle.terms.specs.Pull.{and_then, keyword_at, name_at}
use Rattle.syntax.specs.Tables.{tables_at}
use Rattle.syntax.specs.Statements.{block_at}

-- Nothing stands behind a model.
abbrev pub or_behind : Option (Lexeme × ℕ) → Result (Unit {0}) Fault
or_behind None = Ok tt
or_behind (Some n) = Err (NotAllowed n.0.place)

abbrev pub end_at : List ℕ → ℕ → Result (Unit {0}) Fault
end_at text at = and_then (with_end (next_token text at)) or_behind

-- MODEL name, tables, statements (at most 256, with blocks at most 8 deep), ENDMODEL.
abbrev pub model_at : List ℕ → Result (Unit {0}) Fault
model_at text =
    and_then (keyword_at text Model 0) (λ a.
    and_then (name_at text a) (λ b.
    and_then (tables_at text b) (λ c.
    and_then (block_at text 8 c 256) (λ s.
    and_then (keyword_at text EndModel s.0) (end_at text)))))

-- A text of more than 16,384 bytes is refused before all else.
abbrev pub form_of : List ℕ → Result (Unit {0}) Fault
form_of text = cond (nat_le (length text) 16384) (model_at text) (Err ModelTooLong)
