use Rattle.std.proofs.Common.{true, false, ap, ◌∙◌, arith, rules}
use Rattle.std.proofs.lemmas.Result.{err_from_is_err_and}
use Rattle.names.specs.Schema.{decl_of}
use Rattle.names.specs.Binding.{names_of, bound_from}
use Rattle.names.proofs.Steps.{fails_same, bound_ok, bound_fails, lasts}
use Rattle.names.proofs.binding.Names.bind_rest.Goals as goal

pub returns-in_err-bind : goal.returns-in_err-bind
returns-in_err-bind c =
    let d = decl_of c.args.schema.now in
    let sc = c.args.scope in
    let s = names_of c.loop-part.self in
    let p = err_from_is_err_and c.from_residual.result c.from_residual.ensures.1 in
    rw (p.1, p.2)
    (fails_same _ _ _ (c.loop-part.invariant.same ∙ ap (bound_from d sc s) c.in-Some.ensures.cases.0) (bound_fails d sc s c.in-Some.part.now c.in-Some.behind.now _ c.in_err-bind.ensures))

pub returns-then-eq : goal.returns-then-eq
returns-then-eq c =
    let d = decl_of c.args.schema.now in
    let sc = c.args.scope in
    let s = names_of c.loop-part.self in
    let t = names_of c.bind.new.self in
    let p = c.in-Some.part.now in
    let ps = c.in-Some.behind.now in
    let after = lasts d sc p ps true (search rules) c.requires in
    record {
      same = c.loop-part.invariant.same ∙ ap (bound_from d sc s) c.in-Some.ensures.cases.0 ∙ bound_ok d sc s p ps t c.in_ok-bind.ensures ∙ ap (λ z. bound_from d z t ps) after;
      shorter = omega (arith, c.in-Some.ensures.cases.1);
    }

pub loop-part-preserved : goal.loop-part-preserved
loop-part-preserved c =
    let d = decl_of c.args.schema.now in
    let sc = c.args.scope in
    let s = names_of c.loop-part.self in
    let t = names_of c.bind.new.self in
    let p = c.in-Some.part.now in
    let ps = c.in-Some.behind.now in
    let after = lasts d sc p ps false (search rules) c.requires in
    record {
      same = c.loop-part.invariant.same ∙ ap (bound_from d sc s) c.in-Some.ensures.cases.0 ∙ bound_ok d sc s p ps t c.in_ok-bind.ensures ∙ ap (λ z. bound_from d z t ps) after;
      shorter = omega (arith, c.in-Some.ensures.cases.1);
    }
