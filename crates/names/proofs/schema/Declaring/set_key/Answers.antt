use Rattle.std.proofs.Common.{◌-◌, vec_len, refl, ap, ◌∙◌, arith}
use Rattle.names.specs.Spelled.{place_among}
use Rattle.names.specs.Schema.{keyed_by}
use Rattle.names.proofs.Tables.{changed}
use Rattle.names.proofs.schema.Declaring.set_key.Goals as goal

pub returns-in-Some : goal.returns-in-Some
returns-in-Some c =
    let s = c.args.self.now in
    let t = c.in-Some.table.now in
    ap (λ ts. record { text = s.text.now; tables = ts })
    (changed (keyed_by s.text.now c.args.name) s.tables.items (vec_len s.tables - 1) t (record { title = t.title; fields = t.fields; key = c.place_among-table.result }) (omega (arith, c.in-Some.ensures.variant.0 refl, s.tables.ok.0)) c.in-Some.ensures.value
    (ap (λ k. record { title = t.title; fields = t.fields.items; key = k }) (c.place_among-table.ensures.value ∙ ap (λ l. place_among s.text.now l c.args.name) c.as_slice.ensures.value)))
