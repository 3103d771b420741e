use Rattle.std.proofs.Common.{sym, ◌∙◌}
use Rattle.std.specs.Str.{bytes_eq}
use Rattle.lexer.specs.Names.{spelled}
use Rattle.names.specs.declared.binding.Variable.{Variable}
use Rattle.names.specs.Binding.{names_of}
use Rattle.names.proofs.Tables.{position_map}
use Rattle.dictionary.proofs.variable_of.Goals as goal

pub returns : goal.returns
returns c =
    let text = c.args.text.now in
    c.variable_place.ensures ∙ sym (position_map (λ (v : Variable). spelled text v.name) (λ w. bytes_eq w (spelled text c.args.name)) (names_of c.args.names.now).variables)
