use Rattle.std.proofs.Common.{sym, ap, ◌∙◌}
use Rattle.std.specs.Option.{unwrap_or}
use Rattle.std.specs.Str.{bytes_eq}
use Rattle.lexer.specs.Names.{spelled}
use Rattle.names.specs.Schema.{Table, decl_of, counted}
use Rattle.names.proofs.Tables.{position_map}
use Rattle.dictionary.specs.Dictionary.{written}
use Rattle.dictionary.proofs.TableNames.table_of.Goals as goal

pub returns : goal.returns
returns c =
    let s = c.args.self.now in
    let found = c.table_number.ensures
    ∙ ap counted (sym (position_map (λ (t : Table). spelled (decl_of s.schema).text t.title) (λ w. bytes_eq w (written s c.args.name)) (decl_of s.schema).tables)) in
    record { found = found; number = ap (λ o. unwrap_or o 0) found }
