use Rattle.std.proofs.Common.{suc, refl, sym, ap, ◌∙◌, le_refl, arith}
use Rattle.std.proofs.lemmas.Result.{err_from_is_err_and}
use Rattle.syntax.specs.States.{place_of, room_of}
use Rattle.syntax.specs.Statements.{simple_rest, branch_at, loop_at, holding, holder_at, block_at, statement_by}
use Rattle.syntax.proofs.Levels.{holding_none, holding_more}
use Rattle.syntax.proofs.Repeating.{going_start}
use Rattle.syntax.proofs.Firsts.{simple_refused}
use Rattle.syntax.proofs.Loops.{goes_as, loop_more, loop_less, loop_none, loop_refused}
use Rattle.syntax.proofs.statements.+statements.Goals as goal

pub read_block-loop-next-init : goal.read_block-loop-next-init
read_block-loop-next-init t c =
    let text = c.args.state.at.text.now in
    (le_refl _, record { same = refl; going = going_start (statement_by text (holding text c.args.depth)) (room_of text) (suc c.args.state.room) (place_of c.args.state) (omega arith) })

pub read_block-loop-next-preserved : goal.read_block-loop-next-preserved
read_block-loop-next-preserved t c =
    let less = loop_less (λ r. r.at) place_of room_of (λ text s. statement_by text (holding text c.args.depth) s) c.loop-next.state c.in-Some.next _ c.in_ok-next.ensures c.in-Some.is in
    let most = c.loop-next.invariant.0 in
    (omega arith, loop_more (λ r. r.at) place_of room_of (λ text s. statement_by text (holding text c.args.depth) s) _ _ _ c.loop-next.state c.in-Some.next _ c.loop-next.invariant.1 c.in_ok-next.ensures c.in-Some.is)

pub read_block-returns : goal.read_block-returns
read_block-returns t c =
    ((loop_none (λ r. r.at) place_of room_of (λ text s. statement_by text (holding text c.args.depth) s) _ _ _ c.loop-next.state _ c.loop-next.invariant.1 c.in_ok-next.ensures c.in_default.is, c.loop-next.invariant.1.same), c.loop-next.invariant.0)

pub read_block-returns-in_err-next : goal.read_block-returns-in_err-next
read_block-returns-in_err-next t c =
    let p = err_from_is_err_and c.from_residual.result c.from_residual.ensures.1 in
    rw (p.1, p.2) (loop_refused (λ r. r.at) place_of room_of (λ text s. statement_by text (holding text c.args.depth) s) _ _ _ c.loop-next.state _ c.loop-next.invariant.1 c.in_err-next.ensures, tt)

pub next_statement-returns-in_err-at : goal.next_statement-returns-in_err-at
next_statement-returns-in_err-at t c =
    let text = c.args.state.at.text.now in
    let begun = c.first_of-first.result in
    let came = c.in_ok-p.ensures in
    let rest = c.in_err-at.ensures ∙ ap (λ x. simple_rest x begun c.in_ok-p.at.at) came.2 ∙ ap (simple_rest text begun) came.1 in
    let p = err_from_is_err_and c.from_residual-in_err-at.result c.from_residual-in_err-at.ensures.1 in
    rw (p.1, p.2) (simple_refused text (holding text c.args.depth) (place_of c.args.state) c.in_ok-p.p c.in_ok-room.room c.in_ok-room.ensures _ begun came.0 c.first_of-first.ensures c.in_default.not-Nothing c.in_default-first.not-Holder rest)

pub read_holder-returns-in_err-depth : goal.read_holder-returns-in_err-depth
read_holder-returns-in_err-depth t c =
    let p = err_from_is_err_and c.from_residual.result c.from_residual.ensures.1 in
    rw (p.1, p.2) (holding_none c.args.state.at.text.now c.args.depth c.args.holder c.args.p c.args.state.at.at c.args.state.room _ c.in_err-depth.ensures, tt)

pub read_holder-returns-in-If : goal.read_holder-returns-in-If
read_holder-returns-in-If t c =
    let text = c.args.state.at.text.now in
    let d = c.in_ok-depth.depth in
    let same =
    ap (λ h. holder_at text (block_at text d) h c.args.state.at.at c.args.state.room) (sym c.in-If.is)
    ∙ holding_more text c.args.depth d c.args.holder c.args.p c.args.state.at.at c.args.state.room c.in_ok-depth.ensures in
    (goes_as (λ r. r.at) place_of (λ text s. branch_at text (block_at text d) s.0 s.1) (λ text s. holding text c.args.depth c.args.holder c.args.p.place s.0 s.1) c.args.state c.read_branch.result same c.read_branch.ensures.0, c.read_branch.ensures.1)

pub read_holder-returns-in-While : goal.read_holder-returns-in-While
read_holder-returns-in-While t c =
    let text = c.args.state.at.text.now in
    let d = c.in_ok-depth.depth in
    let same =
    ap (λ h. holder_at text (block_at text d) h c.args.state.at.at c.args.state.room) (sym c.in-While.is)
    ∙ holding_more text c.args.depth d c.args.holder c.args.p c.args.state.at.at c.args.state.room c.in_ok-depth.ensures in
    (goes_as (λ r. r.at) place_of (λ text s. loop_at text (block_at text d) s.0 s.1) (λ text s. holding text c.args.depth c.args.holder c.args.p.place s.0 s.1) c.args.state c.read_loop.result same c.read_loop.ensures.0, c.read_loop.ensures.1)
