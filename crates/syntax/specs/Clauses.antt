-- The parts of statements: the place behind each, or the refusal.
use Rattle.std.specs.Prelude.{ℕ, cond, List, length, Some, None, Ok, Err, Option, Result}
use Rattle.faults.specs.declared.Fault.{Fault}
use Rattle.faults.specs.declared.Fault.TheVariants.{NotAllowed}
use Rattle.lexer.specs.declared.signs.Sign.TheVariants.{Open, Close, Comma, Dot, Equal}
use Rattle.lexer.specs.declared.keywords.Keyword.TheVariants as keyword
use Rattle.terms.specs.declared.pull.Pulled.{Pulled}
use Rattle.terms.specs.declared.shapes.Want.{Want}
use Rattle.terms.specs.declared.shapes.Want.TheVariants as want
use Rattle.terms.specs.Pull.{and_then, pulled, is_sign, is_keyword, is_name, sign_at, keyword_at, name_at}
use Rattle.terms.specs.Terms.{term_at}
use Rattle.syntax.specs.declared.clauses.Element.{Element}
use Rattle.syntax.specs.declared.clauses.Element.TheVariants.{Attribute, Value}
use Rattle.syntax.specs.declared.clauses.Write.{Write}
use Rattle.syntax.specs.declared.clauses.Write.TheVariants.{Insert, Update, Delete}
use Rattle.syntax.specs.Repeats.{some, repeated}

-- Brackets are at most 12 deep.
abbrev pub term_end : List ℕ → Want → ℕ → Result ℕ Fault
term_end text w at = and_then (term_at text 12 w at) (λ r. Ok r.1)

-- WHERE c
abbrev pub where_at : List ℕ → ℕ → Result ℕ Fault
where_at text at = and_then (keyword_at text keyword.Where at) (term_end text want.Truth)

-- An attribute of SELECT is a name, a value of INSERT an expression.
abbrev pub element_at : List ℕ → Element → ℕ → Result ℕ Fault
element_at text Attribute at = name_at text at
element_at text Value at = term_end text want.Value at

-- , and one element more
abbrev pub element_in : List ℕ → Element → Result Pulled Fault → Result (Option ℕ) Fault
element_in text e (Err f) = Ok None
element_in text e (Ok p) = cond (is_sign Comma p.word) (some (element_at text e p.end)) (Ok None)

abbrev pub element_behind : List ℕ → Element → ℕ → Result (Option ℕ) Fault
element_behind text e at = element_in text e (pulled text at)

-- Elements with commas between them; as each takes a byte, there are no more than the text has.
abbrev pub list_at : List ℕ → Element → ℕ → Result ℕ Fault
list_at text e at = and_then (element_at text e at) (repeated (element_behind text e) (length text))

-- (v)
abbrev pub argument_at : List ℕ → ℕ → Result ℕ Fault
argument_at text at = and_then (sign_at text Open at) (λ a. and_then (name_at text a) (sign_at text Close))

-- INTO t VALUES (e,e)
abbrev pub insert_rest : List ℕ → ℕ → Result ℕ Fault
insert_rest text at =
    and_then (keyword_at text keyword.Into at) (λ a.
    and_then (name_at text a) (λ b.
    and_then (keyword_at text keyword.Values b) (λ c.
    and_then (sign_at text Open c) (λ d.
    and_then (list_at text Value d) (sign_at text Close)))))

-- t SET a = e WHERE c
abbrev pub update_rest : List ℕ → ℕ → Result ℕ Fault
update_rest text at =
    and_then (name_at text at) (λ a.
    and_then (keyword_at text keyword.Set a) (λ b.
    and_then (name_at text b) (λ c.
    and_then (sign_at text Equal c) (λ d.
    and_then (term_end text want.Value d) (where_at text)))))

-- FROM t WHERE c
abbrev pub delete_rest : List ℕ → ℕ → Result ℕ Fault
delete_rest text at = and_then (keyword_at text keyword.From at) (λ a. and_then (name_at text a) (where_at text))

abbrev pub write_rest : List ℕ → Write → ℕ → Result ℕ Fault
write_rest text Insert at = insert_rest text at
write_rest text Update at = update_rest text at
write_rest text Delete at = delete_rest text at

-- NEXT(v) or a write
abbrev pub caught_in : List ℕ → Pulled → Result ℕ Fault
caught_in text p =
    cond (is_keyword keyword.Next p.word) (argument_at text p.end)
    (cond (is_keyword keyword.Insert p.word) (insert_rest text p.end)
    (cond (is_keyword keyword.Update p.word) (update_rest text p.end)
    (cond (is_keyword keyword.Delete p.word) (delete_rest text p.end)
    (Err (NotAllowed p.place)))))

abbrev pub act_at : List ℕ → ℕ → Result ℕ Fault
act_at text at = and_then (pulled text at) (caught_in text)

-- (NEXT(v)) or (a write)
abbrev pub caught_rest : List ℕ → ℕ → Result ℕ Fault
caught_rest text at = and_then (sign_at text Open at) (λ a. and_then (act_at text a) (sign_at text Close))

-- a,b FROM t WHERE c
abbrev pub select_rest : List ℕ → ℕ → Result ℕ Fault
select_rest text at =
    and_then (list_at text Attribute at) (λ a.
    and_then (keyword_at text keyword.From a) (λ b.
    and_then (name_at text b) (where_at text)))

-- .TAIL
abbrev pub tail_at : List ℕ → ℕ → Result ℕ Fault
tail_at text at = and_then (sign_at text Dot at) (keyword_at text keyword.Tail)

-- .TAIL, if it comes
abbrev pub found : Result ℕ Fault → Option ℕ
found (Ok e) = Some e
found (Err f) = None

abbrev pub is_tail : List ℕ → ℕ → Option ℕ
is_tail text at = found (tail_at text at)

abbrev pub tail_or : Option ℕ → Result ℕ Fault → Result ℕ Fault
tail_or (Some e) other = Ok e
tail_or None other = other

-- NIL, SELECT .., CATCH(..), w.TAIL or an expression
abbrev pub value_in : List ℕ → ℕ → Pulled → Result ℕ Fault
value_in text at p =
    cond (is_keyword keyword.Nil p.word) (Ok p.end)
    (cond (is_keyword keyword.Select p.word) (select_rest text p.end)
    (cond (is_keyword keyword.Catch p.word) (caught_rest text p.end)
    (cond (is_name p.word) (tail_or (is_tail text p.end) (term_end text want.Value at))
    (term_end text want.Value at))))

abbrev pub value_rest : List ℕ → ℕ → Result ℕ Fault
value_rest text at = and_then (pulled text at) (value_in text at)
