use Rattle.std.proofs.Common.{◌≡◌, Some, Ok, sym, rules}
use Rattle.syntax.specs.Clauses.{element_behind}
use Rattle.syntax.proofs.Elements.{element_less}
use Rattle.syntax.proofs.clauses.element_behind.Goals as goal

pub returns-in_ok-element_end-in-Ok : goal.returns-in_ok-element_end-in-Ok
returns-in_ok-element_end-in-Ok c =
    let end = c.in_ok-element_end-in-Ok.field-0 in
    let came : Ok (Some end.at) ≡ element_behind c.args.at.text.now c.args.element c.args.at.at = search rules in
    (came, search rules, element_less c.args.at.text.now c.args.element c.args.at.at end.at (sym came))
