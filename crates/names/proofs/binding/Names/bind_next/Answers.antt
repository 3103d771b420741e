use Rattle.std.proofs.Common.{◌≡◌, ◌+◌, ◌≤◌, sym, ap, ◌∙◌, subst, arith}
use Rattle.std.proofs.lemmas.Result.{err_from_is_err_and, MatchResult-weaker}
use Rattle.names.specs.Schema.{decl_of}
use Rattle.names.specs.Scopes.{table_is, scope_after}
use Rattle.names.specs.Binding.{names_of, bound_from}
use Rattle.names.specs.Onward.{left_of, within, outside}
use Rattle.names.proofs.Steps.{fails_same, bound_ok, bound_fails, begins, few_more}
use Rattle.names.proofs.binding.Names.bind_next.Goals as goal

pub returns-in_err-bind-clause-value : goal.returns-in_err-bind-clause-value
returns-in_err-bind-clause-value c =
    let p = err_from_is_err_and c.from_residual.result c.from_residual.ensures.1 in
    rw (p.1, p.2) (bound_fails (decl_of c.args.schema.now) c.args.scope.now (names_of c.args.self.now) c.args.part c.args.behind.now _ c.in_err-bind.ensures)

pub returns-in-None-clause-value : goal.returns-in-None-clause-value
returns-in-None-clause-value c =
    let d = decl_of c.args.schema.now in
    let sc = c.args.scope.now in
    let p = c.args.part in
    let ps = c.args.behind.now in
    let t = names_of c.bind.new.self in
    let counted = c.outside.ensures in
    let after : scope_after d sc p ps ≡ outside sc p.role = begins d sc p ps c.requires.outside ∙ ap (λ o. record { declared = (outside sc p.role).declared; clause = o }) (sym c.in-None.ensures) in (
      record {
        same = bound_ok d sc (names_of c.args.self.now) p ps t c.in_ok-bind.ensures ∙ ap (λ s. bound_from d s t ps) (after ∙ sym counted);
        shorter = omega arith;
      },
      omega arith,
      subst (λ s. s.declared ≤ sc.declared + 1) (sym counted) (few_more (table_is p.role) sc.declared),
    )

pub returns-in-Some-clause-value : goal.returns-in-Some-clause-value
returns-in-Some-clause-value c =
    let d = decl_of c.args.schema.now in
    let sc = c.args.scope.now in
    let p = c.args.part in
    let ps = c.args.behind.now in
    let t = names_of c.bind.new.self in
    let counted = c.outside.ensures in
    let after : scope_after d sc p ps ≡ within (outside sc p.role) c.in-Some.clause = begins d sc p ps c.requires.outside ∙ ap (λ o. record { declared = (outside sc p.role).declared; clause = o }) (sym c.in-Some.ensures) in
    let start = bound_ok d sc (names_of c.args.self.now) p ps t c.in_ok-bind.ensures ∙ ap (λ s. bound_from d s t ps) (after ∙ ap (λ s. within s c.in-Some.clause) (sym counted)) in
    let kept : left_of c.outside.result ≡ c.bind_clause.new.scope = ap left_of counted ∙ sym counted ∙ sym c.bind_clause.ensures.scope in
    MatchResult-weaker c.bind_clause.result c.bind_clause.ensures.value
    (λ e o. (
      record {
        same = start ∙ o.same ∙ ap (λ s. bound_from d s (names_of c.bind_clause.new.self) e.now) kept;
        shorter = let few = o.shorter in omega arith;
      },
      o.shorter,
      subst (λ s. s.declared ≤ sc.declared + 1) (sym counted ∙ sym c.bind_clause.ensures.scope) (few_more (table_is p.role) sc.declared),
    ))
    (λ f e. fails_same f _ _ start e)
