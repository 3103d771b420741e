use Rattle.std.proofs.Common.{◌≡◌, ℕ, List, Ok, Result, refl, ap, ◌∙◌, arith}
use Rattle.std.proofs.lemmas.Result.{err_from_is_err_and}
use Rattle.faults.specs.declared.Fault.{Fault}
use Rattle.terms.specs.Pull.{and_then, word_at, name_at}
use Rattle.syntax.specs.Repeats.{repeated}
use Rattle.syntax.specs.States.{place_of, room_of}
use Rattle.syntax.specs.Tables.{attribute_behind, attributes_at}
use Rattle.syntax.proofs.Repeating.{going_start}
use Rattle.syntax.proofs.Loops.{loop_more, loop_none, loop_refused}
use Rattle.syntax.proofs.tables.attributes_end.Goals as goal

-- What comes behind the first attribute is what the whole gives.
behind_first : (text same : List ℕ) (at first : ℕ) (r : Result (ℕ × ℕ) Fault) → Ok first ≡ name_at text at → same ≡ text → r ≡ repeated (attribute_behind same) 8 (first, 7) → and_then r (λ s. Ok s.0) ≡ attributes_at text at
behind_first text same at first r name here rest =
    ap (λ r. and_then r (λ s. Ok s.0)) (rest ∙ ap (λ x. repeated (attribute_behind x) 8 (first, 7)) here)
    ∙ ap (λ r. and_then r (λ e. and_then (repeated (attribute_behind text) 8 (e, 7)) (λ s. Ok s.0))) name

pub loop-next-init : goal.loop-next-init
loop-next-init c =
    let text = c.in_ok-at.at.text.now in
    record { same = refl; going = going_start (attribute_behind text) (room_of text) 8 (c.in_ok-at.at.at, 7) (omega arith) }

pub loop-next-preserved : goal.loop-next-preserved
loop-next-preserved c =
    loop_more (λ r. r.at) place_of room_of attribute_behind _ _ _ c.loop-next.state c.in-Some.next _ c.loop-next.invariant c.in_ok-next.ensures c.in-Some.is

pub returns-in_err-next : goal.returns-in_err-next
returns-in_err-next c =
    let n = c.in_ok-at.ensures in
    let name = n.2.0 ∙ ap (λ w. word_at c.args.at.text.now w c.args.at.at) n.1 in
    let p = err_from_is_err_and c.from_residual-in_err-next.result c.from_residual-in_err-next.ensures.1 in
    rw (p.1, p.2) (behind_first c.args.at.text.now _ c.args.at.at _ _ name n.2.1 (loop_refused (λ r. r.at) place_of room_of attribute_behind _ _ _ c.loop-next.state _ c.loop-next.invariant c.in_err-next.ensures))

pub returns : goal.returns
returns c =
    let n = c.in_ok-at.ensures in
    let name = n.2.0 ∙ ap (λ w. word_at c.args.at.text.now w c.args.at.at) n.1 in
    let done = loop_none (λ r. r.at) place_of room_of attribute_behind _ _ _ c.loop-next.state _ c.loop-next.invariant c.in_ok-next.ensures c.in_default.is in
    (behind_first c.args.at.text.now _ c.args.at.at _ _ name n.2.1 done, c.loop-next.invariant.same ∙ n.2.1)
