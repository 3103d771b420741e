use Rattle.std.proofs.Common.{◌-◌, vec_len, refl, ap, arith}
use Rattle.names.specs.Schema.{widened}
use Rattle.names.proofs.Tables.{changed}
use Rattle.names.proofs.schema.Declaring.grow.Goals as goal

pub returns-in_ok-push : goal.returns-in_ok-push
returns-in_ok-push c =
    let s = c.args.self.now in
    let t = c.in-Some.table.now in
    ap (λ ts. record { text = s.text.now; tables = ts })
    (changed (widened c.args.field) s.tables.items (vec_len s.tables - 1) t (record { title = t.title; fields = c.push.new.self; key = t.key }) (omega (arith, c.in-Some.ensures.variant.0 refl, s.tables.ok.0)) c.in-Some.ensures.value
    (ap (λ fs. record { title = t.title; fields = fs; key = t.key }) c.in_ok-push.ensures.items))
