use Rattle.std.proofs.Common.{◌≡◌, true, ap, ◌∙◌, rules, arith}
use Rattle.lexer.specs.declared.keywords.Keyword.TheVariants.{Table}
use Rattle.terms.specs.Pull.{is_keyword}
use Rattle.syntax.specs.States.{rules_of, schema_of}
use Rattle.syntax.specs.Tables.{table_rest}
use Rattle.syntax.proofs.Rooms.{room_less}
use Rattle.syntax.proofs.Rules.{table_at}
use Rattle.syntax.proofs.tables.next_table.Goals as goal

pub returns : goal.returns
returns c =
    let text = c.args.schema.rules.at.text.now in
    let s = schema_of c.args.schema in
    let p = c.in_ok-p.p in
    let first = c.in_ok-p.ensures in
    let is : is_keyword Table p.word ≡ true = search rules in
    let rest = c.in_ok-rules.ensures in
    let read = rest.0 ∙ ap (λ x. table_rest x c.in_ok-p.at.at s.references s.checks) first.2 ∙ ap (λ m. table_rest text m s.references s.checks) first.1 in
    let room = room_less s.tables c.in_ok-tables.tables p c.in_ok-tables.ensures in
    (table_at text s p c.in_ok-tables.tables (rules_of c.in_ok-rules.rules) first.0 is c.in_ok-tables.ensures read, rest.1 ∙ first.2, omega arith)
