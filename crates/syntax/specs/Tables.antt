-- The tables of a schema: the place behind each part, or the refusal.
use Rattle.std.specs.Prelude.{ℕ, zero, suc, ◌+◌, ◌-◌, Bool, true, false, cond, not, ◌&&◌, ◌||◌, List, Some, None, Ok, Err, Option, Result}
use Rattle.faults.specs.declared.Fault.{Fault}
use Rattle.faults.specs.declared.Fault.TheVariants.{NotAllowed, LimitPassed}
use Rattle.lexer.specs.declared.signs.Sign.TheVariants.{Open, Close, Comma, Semicolon, Less, Equal, More}
use Rattle.lexer.specs.declared.keywords.Keyword.TheVariants.{Table, Primary, Key, Foreign, References}
use Rattle.terms.specs.declared.pull.Pulled.{Pulled}
use Rattle.terms.specs.declared.pull.Word.{Word}
use Rattle.terms.specs.declared.pull.Word.TheVariants as word
use Rattle.terms.specs.Pull.{and_then, must, pulled, is_sign, is_keyword, is_name, sign_at, keyword_at, name_at}
use Rattle.syntax.specs.Repeats.{some, repeated}
use Rattle.syntax.specs.Clauses.{argument_at}

-- How far the references and checks of a table are read: the place behind them, how many of each the schema may still have, and whether a check has been among them.
pub record Rules : Type 0 where
  pub end : ℕ
  pub references : ℕ
  pub checks : ℕ
  pub checked : Bool

-- How far the schema is read: the place behind it, and how many tables, references and checks may still come.
pub record Schema : Type 0 where
  pub end : ℕ
  pub tables : ℕ
  pub references : ℕ
  pub checks : ℕ

-- Room for one thing more, or the refusal at a place.
abbrev pub with_room : {A : Type 0} → ℕ → ℕ → Result A Fault → Result A Fault
with_room zero place r = Err (LimitPassed place)
with_room (suc n) place r = r

-- , and one attribute more, where so many may still come; anything else than a name is left for the key.
abbrev pub attribute_behind : List ℕ → ℕ × ℕ → Result (Option (ℕ × ℕ)) Fault
attribute_behind text s =
    and_then (sign_at text Comma s.0) (λ c.
    and_then (pulled text c) (λ p.
    cond (is_name p.word) (with_room s.1 p.place (Ok (Some (p.end, s.1 - 1)))) (Ok None)))

-- A table has at most 8 attributes: one, and 7 more.
abbrev pub attributes_at : List ℕ → ℕ → Result ℕ Fault
attributes_at text at = and_then (name_at text at) (λ e. and_then (repeated (attribute_behind text) 8 (e, 7)) (λ s. Ok s.0))

-- < = >
abbrev pub is_order : Word → Bool
is_order w = is_sign Less w || is_sign Equal w || is_sign More w

abbrev pub order_at : List ℕ → ℕ → Result ℕ Fault
order_at text at = and_then (pulled text at) (must is_order)

abbrev pub is_number : Word → Bool
is_number word.Name = false
is_number (word.Number n) = true
is_number (word.Keyword k) = false
is_number (word.Sign s) = false

abbrev pub number_at : List ℕ → ℕ → Result ℕ Fault
number_at text at = and_then (pulled text at) (must is_number)

-- FOREIGN KEY(a) REFERENCES t; the schema has at most 16 in all.
abbrev pub reference_from : List ℕ → Rules → Pulled → Result Rules Fault
reference_from text s p =
    with_room s.references p.place
    (and_then (keyword_at text Key p.end) (λ a.
    and_then (argument_at text a) (λ b.
    and_then (keyword_at text References b) (λ c.
    and_then (name_at text c) (λ e.
    Ok (record { end = e; references = s.references - 1; checks = s.checks; checked = false }))))))

-- a < n; the schema has at most 16 in all.
abbrev pub check_from : List ℕ → Rules → Pulled → Result Rules Fault
check_from text s p =
    with_room s.checks p.place
    (and_then (order_at text p.end) (λ a.
    and_then (number_at text a) (λ e.
    Ok (record { end = e; references = s.references; checks = s.checks - 1; checked = true }))))

-- A check begins with a name; a reference with FOREIGN, and stands before every check.
abbrev pub rule_in : List ℕ → Rules → Pulled → Result (Option Rules) Fault
rule_in text s q =
    cond (is_name q.word) (some (check_from text s q))
    (cond (is_keyword Foreign q.word && not s.checked) (some (reference_from text s q))
    (Err (NotAllowed q.place)))

-- , and one reference or check more.
abbrev pub rule_behind : List ℕ → Rules → Result (Option Rules) Fault
rule_behind text s =
    and_then (pulled text s.end) (λ p.
    cond (is_sign Comma p.word) (and_then (pulled text p.end) (rule_in text s)) (Ok None))

abbrev pub rules_at : List ℕ → Rules → Result Rules Fault
rules_at text s = repeated (rule_behind text) (suc (s.references + s.checks)) s

-- t (a,b,PRIMARY KEY(a), references, checks);
abbrev pub table_rest : List ℕ → ℕ → ℕ → ℕ → Result Rules Fault
table_rest text at references checks =
    and_then (name_at text at) (λ a.
    and_then (sign_at text Open a) (λ b.
    and_then (attributes_at text b) (λ c.
    and_then (sign_at text Comma c) (λ d.
    and_then (keyword_at text Primary d) (λ e.
    and_then (keyword_at text Key e) (λ f.
    and_then (argument_at text f) (λ g.
    and_then (rules_at text (record { end = g; references = references; checks = checks; checked = false })) (λ s.
    and_then (sign_at text Close s.end) (λ h.
    and_then (sign_at text Semicolon h) (λ i.
    Ok (record { end = i; references = s.references; checks = s.checks; checked = false })))))))))))

-- TABLE and what it declares, where so many may still come.
abbrev pub table_behind : List ℕ → Schema → Result (Option Schema) Fault
table_behind text s =
    and_then (pulled text s.end) (λ p.
    cond (is_keyword Table p.word)
    (with_room s.tables p.place
    (and_then (table_rest text p.end s.references s.checks) (λ r.
    Ok (Some (record { end = r.end; tables = s.tables - 1; references = r.references; checks = r.checks })))))
    (Ok None))

-- At most 8 tables with at most 16 references and 16 checks in all.
abbrev pub tables_at : List ℕ → ℕ → Result ℕ Fault
tables_at text at = and_then (repeated (table_behind text) 9 (record { end = at; tables = 8; references = 16; checks = 16 })) (λ s. Ok s.end)
