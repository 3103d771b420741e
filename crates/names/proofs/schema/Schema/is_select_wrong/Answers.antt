use Rattle.std.proofs.Common.{◌≡◌, ℕ, ◌&&◌, ◌==◌, not, Option, Some, None, sym, refl, ap, ◌∙◌}
use Rattle.std.specs.Bool.{beq}
use Rattle.std.specs.Option.{option_eq}
use Rattle.names.specs.declared.scope.Choice.{Choice}
use Rattle.names.specs.Schema.{decl_of}
use Rattle.names.specs.Faults.{same_table, same_flags, agrees_with, select_wrong}
use Rattle.names.proofs.schema.Schema.is_select_wrong.Goals as goal

-- The derived `==` says what `agrees_with` says.
same : (a b : Option ℕ) → option_eq (λ x y. x == y) a b ≡ same_table a b
same None None = refl
same None (Some u) = refl
same (Some t) None = refl
same (Some t) (Some u) = refl

told : (o : Option Choice) (e : Choice) → option_eq (λ x y. option_eq (λ a b. a == b) x.table y.table && (same_flags x.picked y.picked && beq x.strange y.strange)) o (Some e) ≡ agrees_with o e
told None e = refl
told (Some f) e = ap (λ b. b && (same_flags f.picked e.picked && beq f.strange e.strange)) (same f.table e.table)

pub returns-in-Select : goal.returns-in-Select
returns-in-Select c =
    let d = decl_of c.args.self.now in
    c.ne.ensures
    ∙ ap not (told c.args.first c.choose.result ∙ ap (agrees_with c.args.first) c.choose.ensures)
    ∙ ap (select_wrong d c.args.first c.args.behind.now) (sym c.in-Select.is)
