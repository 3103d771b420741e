use Rattle.std.proofs.Common.{◌+◌, ◌≤◌, drop, sym, ap, ◌∙◌, subst}
use Rattle.std.proofs.lemmas.Bool.{cond-true, cond-false}
use Rattle.names.specs.Schema.{decl_of}
use Rattle.names.specs.Scopes.{table_is}
use Rattle.names.specs.Binding.{names_of}
use Rattle.names.specs.Faults.{field_is, wrong_from}
use Rattle.names.proofs.Looking.{looked, few_tables, few_fields}
use Rattle.names.proofs.faulty.Bindings.first_wrong.Goals as goal

pub returns-then-is_wrong : goal.returns-then-is_wrong
returns-then-is_wrong c =
    let d = decl_of c.args.self.now.schema.now in
    let vs = (names_of c.args.self.now.names.now).variables in
    let i = c.loop-bound.bound-index in
    let left = c.loop-bound.left.now in
    let step = looked d vs c.loop-bound.spot left c.as_slice-bound-items.result.now i c.in_ok-part.part.now c.in_ok-part.behind.now c.in_ok-part.ensures.cases.0 c.loop-bound-test.true in
    sym (step ∙ cond-true _ _ _ (sym c.if-is_wrong.ensures))
    ∙ ap (λ bs. wrong_from d vs c.loop-bound.spot left (drop i bs)) c.as_slice-bound-items.ensures.value
    ∙ c.loop-bound.invariant.same

pub loop-bound-preserved : goal.loop-bound-preserved
loop-bound-preserved c =
    let d = decl_of c.args.self.now.schema.now in
    let vs = (names_of c.args.self.now.names.now).variables in
    let i = c.loop-bound.bound-index in
    let s = c.loop-bound.spot in
    let left = c.loop-bound.left.now in
    let p = c.in_ok-part.part.now in
    let ps = c.in_ok-part.behind.now in
    let bounds = c.as_slice-bound-items.ensures.value in
    let step = looked d vs s left c.as_slice-bound-items.result.now i p ps c.in_ok-part.ensures.cases.0 c.loop-bound-test.true in
    record {
      same =
          ap (λ bs. wrong_from d vs c.after-spot.result ps (drop (i + 1) bs)) (sym bounds)
          ∙ ap (λ t. wrong_from d vs t ps (drop (i + 1) c.as_slice-bound-items.result.now)) c.after-spot.ensures
          ∙ sym (step ∙ cond-false _ _ _ (sym c.if-is_wrong.ensures))
          ∙ ap (λ bs. wrong_from d vs s left (drop i bs)) bounds
          ∙ c.loop-bound.invariant.same;
      tables = subst (λ t. t.tables ≤ i + 1) (sym c.after-spot.ensures) (few_tables (table_is p.role) s.tables i c.loop-bound.invariant.tables);
      fields = subst (λ t. t.fields ≤ i + 1) (sym c.after-spot.ensures) (few_fields (table_is p.role) (field_is p.role) s.fields i c.loop-bound.invariant.fields);
    }
