use Rattle.std.proofs.Common.{sym, ap, ◌∙◌}
use Rattle.std.specs.Option.{unwrap_or}
use Rattle.std.specs.Str.{bytes_eq}
use Rattle.lexer.specs.Names.{spelled}
use Rattle.names.specs.Schema.{decl_of, fields_of}
use Rattle.names.proofs.Tables.{position_map}
use Rattle.dictionary.specs.Dictionary.{written}
use Rattle.dictionary.proofs.TableNames.place_of.Goals as goal

pub returns : goal.returns
returns c =
    let s = c.args.self.now in
    let found = c.field_place.ensures ∙ sym (position_map (spelled (decl_of s.schema).text) (λ w. bytes_eq w (written s c.args.name)) (fields_of (decl_of s.schema) c.args.table)) in
    record { found = found; number = ap (λ o. unwrap_or o 0) found }
