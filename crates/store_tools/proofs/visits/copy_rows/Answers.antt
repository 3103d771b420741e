use Rattle.std.proofs.Common.{◌≡◌, ◌+◌, ◌<◌, List, ◌++◌, length, get_or, take, drop, set, ap, ◌∙◌, arith, rules}
use Rattle.std.proofs.lemmas.List.{places, same_lists, get_or-set_same, length-take-le}
use Rattle.std.proofs.lemmas.Bool.{cases_eq}
use Rattle.store.specs.Meaning.{no_entry}
use Rattle.store.proofs.Calls.{count_from}
use Rattle.store_tools.proofs.visits.copy_rows.Goals as goal

-- one row more in front
front_more : {X : Type 0} (rows out : List X) (i : _) (d : X) → i < length rows → i < length out → set (take i rows ++ drop i out) i (get_or rows i d) ≡ take (i + 1) rows ++ drop (i + 1) out
front_more rows out i d h l = same_lists _ _ (search (rules, places)) (λ k e q. grind (arith, places, get_or-set_same, cases_eq k i))

pub loop-position-preserved : goal.loop-position-preserved
loop-position-preserved g c =
    let rows = (g.S.Store.meaning c.args.store.now).tables c.args.table in
    let n = count_from (g.S.Store.meaning c.args.store.now) c.args.table c.in_ok-rows.rows c.in_ok-rows.ensures.answer in
    let room = length-take-le c.in_ok-rows.rows c.args.out.now (omega arith) in
    ap (λ o. set o c.loop-position.position c.entry_of.result) c.loop-position.invariant
    ∙ ap (set (take c.loop-position.position rows ++ drop c.loop-position.position (take c.in_ok-rows.rows c.args.out.now)) c.loop-position.position) c.entry_of.ensures
    ∙ front_more rows (take c.in_ok-rows.rows c.args.out.now) c.loop-position.position no_entry (omega (arith, n.1)) (omega arith)
