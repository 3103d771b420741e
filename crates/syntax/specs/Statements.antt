-- Statements and blocks: the place behind each and how many more statements are allowed, or the refusal.
use Rattle.std.specs.Prelude.{ℕ, zero, suc, ◌-◌, cond, ◌||◌, List, Some, None, Ok, Err, Option, Result}
use Rattle.faults.specs.declared.Fault.{Fault}
use Rattle.faults.specs.declared.Fault.TheVariants.{LimitPassed}
use Rattle.lexer.specs.declared.signs.Sign.TheVariants.{Open, Close, Equal, Semicolon}
use Rattle.lexer.specs.declared.keywords.Keyword.{Keyword}
use Rattle.lexer.specs.declared.keywords.Keyword.TheVariants as keyword
use Rattle.terms.specs.declared.pull.Pulled.{Pulled}
use Rattle.terms.specs.declared.pull.Word.{Word}
use Rattle.terms.specs.declared.shapes.Want.TheVariants as want
use Rattle.terms.specs.Pull.{and_then, pulled, is_keyword, is_name, sign_at, keyword_at}
use Rattle.syntax.specs.declared.clauses.Write.TheVariants.{Insert, Update, Delete}
use Rattle.syntax.specs.declared.statements.Holder.{Holder}
use Rattle.syntax.specs.declared.statements.Holder.TheVariants.{If, While}
use Rattle.syntax.specs.declared.statements.First.{First}
use Rattle.syntax.specs.declared.statements.First.TheVariants.{Target, Argument, Write, Call, Nothing}
use Rattle.syntax.specs.declared.statements.First.TheVariants as first
use Rattle.syntax.specs.Repeats.{some, repeated}
use Rattle.syntax.specs.Clauses.{term_end, argument_at, write_rest, value_rest}
use Rattle.syntax.specs.Tables.{with_room}

-- What a statement begins with; any other token begins none.
abbrev pub first_of : Word → First
first_of w =
    cond (is_name w) Target
    (cond (is_keyword keyword.Read w || is_keyword keyword.Load w || is_keyword keyword.Next w) Argument
    (cond (is_keyword keyword.Insert w) (Write Insert)
    (cond (is_keyword keyword.Update w) (Write Update)
    (cond (is_keyword keyword.Delete w) (Write Delete)
    (cond (is_keyword keyword.Commit w || is_keyword keyword.Rollback w) Call
    (cond (is_keyword keyword.If w) (first.Holder If)
    (cond (is_keyword keyword.While w) (first.Holder While)
    Nothing)))))))

-- ()
abbrev pub call_at : List ℕ → ℕ → Result ℕ Fault
call_at text at = and_then (sign_at text Open at) (sign_at text Close)

-- = and what is assigned; (v); a write; (). Then the semicolon.
abbrev pub simple_body : List ℕ → First → ℕ → Result ℕ Fault
simple_body text Target at = and_then (sign_at text Equal at) (value_rest text)
simple_body text Argument at = argument_at text at
simple_body text (Write w) at = write_rest text w at
simple_body text Call at = call_at text at
simple_body text (first.Holder h) at = call_at text at
simple_body text Nothing at = call_at text at

abbrev pub simple_rest : List ℕ → First → ℕ → Result ℕ Fault
simple_rest text f at = and_then (simple_body text f at) (sign_at text Semicolon)

-- The word that ends IF or WHILE, and its semicolon.
abbrev pub last_word : List ℕ → Keyword → ℕ → Result ℕ Fault
last_word text k at = and_then (keyword_at text k at) (sign_at text Semicolon)

-- A reader of the blocks inside a statement.
abbrev pub Blocks : Type 0
Blocks = ℕ → ℕ → Result (ℕ × ℕ) Fault

-- A word and the block behind it.
abbrev pub part_at : List ℕ → Blocks → Keyword → ℕ × ℕ → Result (ℕ × ℕ) Fault
part_at text block k s = and_then (keyword_at text k s.0) (λ a. block a s.1)

-- c THEN .. ELSE .. ENDIF;
abbrev pub branch_at : List ℕ → Blocks → ℕ → ℕ → Result (ℕ × ℕ) Fault
branch_at text block at room =
    and_then (term_end text want.Truth at) (λ a.
    and_then (part_at text block keyword.Then (a, room)) (λ s.
    and_then (part_at text block keyword.Else s) (λ t.
    and_then (last_word text keyword.EndIf t.0) (λ e. Ok (e, t.1)))))

-- c DO .. ENDWHILE;
abbrev pub loop_at : List ℕ → Blocks → ℕ → ℕ → Result (ℕ × ℕ) Fault
loop_at text block at room =
    and_then (term_end text want.Truth at) (λ a.
    and_then (part_at text block keyword.Do (a, room)) (λ s.
    and_then (last_word text keyword.EndWhile s.0) (λ e. Ok (e, s.1))))

abbrev pub holder_at : List ℕ → Blocks → Holder → ℕ → ℕ → Result (ℕ × ℕ) Fault
holder_at text block If at room = branch_at text block at room
holder_at text block While at room = loop_at text block at room

-- What holds blocks: which word, its place, the place behind it, and how many statements are allowed.
abbrev pub Holding : Type 0
Holding = Holder → ℕ → ℕ → ℕ → Result (ℕ × ℕ) Fault

-- A statement by its first token, where what holds blocks is given; it counts as one.
abbrev pub statement_in : List ℕ → Holding → ℕ → Pulled → First → Result (Option (ℕ × ℕ)) Fault
statement_in text hold room p Nothing = Ok None
statement_in text hold room p (first.Holder h) = with_room room p.place (some (hold h p.place p.end (room - 1)))
statement_in text hold room p Target = with_room room p.place (and_then (simple_rest text Target p.end) (λ e. Ok (Some (e, room - 1))))
statement_in text hold room p Argument = with_room room p.place (and_then (simple_rest text Argument p.end) (λ e. Ok (Some (e, room - 1))))
statement_in text hold room p (Write w) = with_room room p.place (and_then (simple_rest text (Write w) p.end) (λ e. Ok (Some (e, room - 1))))
statement_in text hold room p Call = with_room room p.place (and_then (simple_rest text Call p.end) (λ e. Ok (Some (e, room - 1))))

abbrev pub statement_by : List ℕ → Holding → ℕ × ℕ → Result (Option (ℕ × ℕ)) Fault
statement_by text hold s = and_then (pulled text s.0) (λ p. statement_in text hold s.1 p (first_of p.word))

-- Statements one after another; there are at most as many as are allowed.
abbrev pub sequence : List ℕ → Holding → Blocks
sequence text hold at room = repeated (statement_by text hold) (suc room) (at, room)

-- IF and WHILE, where so many levels of blocks are allowed.
unfoldable pub holding : List ℕ → ℕ → Holding
holding text zero h place at room = Err (LimitPassed place)
holding text (suc d) h place at room = holder_at text (sequence text (holding text d)) h at room

-- A block, in which so many levels of blocks are allowed.
abbrev pub block_at : List ℕ → ℕ → Blocks
block_at text d at room = sequence text (holding text d) at room
