-- A rule behind its comma, and a table behind its word.
use Rattle.std.proofs.Common.{◌≡◌, ℕ, ◌-◌, true, cond, List, Some, None, Ok, Option, Result, sym, ap, ◌∙◌, arith}
use Rattle.faults.specs.declared.Fault.{Fault}
use Rattle.lexer.specs.declared.keywords.Keyword.TheVariants.{Table}
use Rattle.lexer.specs.declared.signs.Sign.TheVariants.{Comma}
use Rattle.terms.specs.declared.pull.Pulled.{Pulled}
use Rattle.terms.specs.Pull.{and_then, pulled, taken_from, is_sign, is_keyword}
use Rattle.syntax.specs.Tables.{Rules, Schema, with_room, rule_in, rule_behind, table_rest, table_behind}
use Rattle.syntax.proofs.Rooms.{room_more, room_less}

pub rule_at : (text : List ℕ) (s : Rules) (comma p : Pulled) → Ok comma ≡ pulled text s.end → is_sign Comma comma.word ≡ true → Ok p ≡ pulled text comma.end → rule_in text s p ≡ rule_behind text s
rule_at text s comma p first is next =
    ap (λ r. and_then r (rule_in text s)) next
    ∙ ap (λ b. cond b (and_then (pulled text comma.end) (rule_in text s)) (Ok None)) (sym is)
    ∙ ap (λ r. and_then r (λ q. cond (is_sign Comma q.word) (and_then (pulled text q.end) (rule_in text s)) (Ok None))) first

-- A table behind its first word.
abbrev table_with : Rules → ℕ → Result (Option Schema) Fault
table_with r n = Ok (Some (record { end = r.end; tables = n; references = r.references; checks = r.checks }))

pub table_at : (text : List ℕ) (s : Schema) (p : Pulled) (n : ℕ) (r : Rules) → Ok p ≡ pulled text s.end → is_keyword Table p.word ≡ true → Ok n ≡ taken_from s.tables p → Ok r ≡ table_rest text p.end s.references s.checks → Ok (Some (record { end = r.end; tables = n; references = r.references; checks = r.checks })) ≡ table_behind text s
table_at text s p n r first is room rest =
    let one : n ≡ s.tables - 1 = let e = room_less s.tables n p room in omega arith in
    ap (table_with r) one
    ∙ ap (λ q. and_then q (λ r. table_with r (s.tables - 1))) rest
    ∙ sym (room_more s.tables n p (and_then (table_rest text p.end s.references s.checks) (λ r. table_with r (s.tables - 1))) room)
    ∙ ap (λ b. cond b (with_room s.tables p.place (and_then (table_rest text p.end s.references s.checks) (λ r. table_with r (s.tables - 1)))) (Ok None)) (sym is)
    ∙ ap (λ q. and_then q (λ p. cond (is_keyword Table p.word) (with_room s.tables p.place (and_then (table_rest text p.end s.references s.checks) (λ r. table_with r (s.tables - 1)))) (Ok None))) first
