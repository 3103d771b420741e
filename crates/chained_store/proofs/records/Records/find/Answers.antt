use Rattle.std.proofs.Common.{◌≡◌, refl, ℕ, suc, ◌-◌, ◌<◌, List, [], ◌∷◌, ◌++◌, Some, None, map, length, get_or, ◌<ℤ◌, sym, ap, ◌∙◌, subst, arith, rules, length-append, w32, to_z, of_z}
use Rattle.std.specs.Iterator.{Yields, YieldsFirst}
use Rattle.std.proofs.lemmas.Iterator.Consumers.{YieldsList-from_first, YieldsList-turn, YieldsList-end}
use Rattle.std.proofs.lemmas.Grind.{get_or_default_zero}
use Rattle.std.proofs.lemmas.Cmp.{int_ranked}
use Rattle.std.proofs.lemmas.Int.{to_z-of_z}
use Rattle.chain.specs.declared.cells.Cell.{Cell}
use Rattle.chain.specs.declared.nodes.Nodes.{Nodes}
use Rattle.chain.specs.Nodes.{nodes_left}
use Rattle.chain.specs.Lists.{nodes_of, prior}
use Rattle.chain.proofs.Elements.{is_node}
use Rattle.store.specs.declared.Entry.{Entry}
use Rattle.store.specs.Meaning.{no_entry}
use Rattle.store.proofs.Rows.{Passed, passed_more, found_at, missed_at, passed_all}
use Rattle.chained_store.specs.Tables.{rows_of, spot}
use Rattle.chained_store.proofs.Boards.{length_rows, row_at, spot_found, spot_missed}
use Rattle.chained_store.proofs.records.Records.find.Goals as goal

-- where the node that comes now stands, after those that have come
turn : {X : Type 0} (it now next : Nodes X) (is been : List ℕ) (node : ℕ) → nodes_left it ≡ is → Yields (YieldsFirst nodes_left) it been now → YieldsFirst nodes_left now (Some node) next → (length been < length is) × (node ≡ get_or is (length been) 0)
turn it now next is been node e y step =
    let t = YieldsList-turn (YieldsList-from_first (λ x. x) nodes_left is e) been now y (Some node) next node refl step in
    (t.0, t.1 ∙ get_or_default_zero is (length been) node t.0)

-- what that node holds
held_there : (heads : List ℕ) (cells : List (Cell Entry)) (t i node : ℕ) (entry : Entry) → (i < length (nodes_of heads cells t)) × (node ≡ get_or (nodes_of heads cells t) i 0) → entry ≡ get_or (map (λ x. x.value) cells) (node - 1) no_entry
    → entry ≡ get_or (rows_of heads cells t) i no_entry
held_there heads cells t i node entry at e = e ∙ ap (λ j. get_or (map (λ x. x.value) cells) (j - 1) no_entry) at.1 ∙ sym (row_at heads cells t i at.0)

pub element-entry-requires : goal.element-entry-requires
element-entry-requires c =
    let first : nodes_left c.into_iter-node-iterator.result ≡ nodes_of c.args.self.now.heads c.args.self.now.cells.now c.args.table = search rules in
    let at = turn c.into_iter-node-iterator.result c.loop-node.node-iterator c.next.new.self (nodes_of c.args.self.now.heads c.args.self.now.cells.now c.args.table) c.loop-node.yielded c.in-Some.node first c.loop-node.yielded_by c.in-Some.ensures.steps in
    let i = is_node c.args.self.now.heads c.args.self.now.cells.now c.args.self.now.sound c.args.table (length c.loop-node.yielded) (omega (arith, c.args.self.now.width)) at.0 in
    record { from = omega (arith, i.0, at.1); to = omega (arith, i.1, at.1) }

pub loop-node-preserved : goal.loop-node-preserved
loop-node-preserved c =
    let lr = length_rows c.args.self.now.heads c.args.self.now.cells.now c.args.table in
    let first : nodes_left c.into_iter-node-iterator.result ≡ nodes_of c.args.self.now.heads c.args.self.now.cells.now c.args.table = search rules in
    let at = turn c.into_iter-node-iterator.result c.loop-node.node-iterator c.next.new.self (nodes_of c.args.self.now.heads c.args.self.now.cells.now c.args.table) c.loop-node.yielded c.in-Some.node first c.loop-node.yielded_by c.in-Some.ensures.steps in
    let entry = held_there c.args.self.now.heads c.args.self.now.cells.now c.args.table (length c.loop-node.yielded) c.in-Some.node c.element-entry.result at (c.element-entry.ensures no_entry) in
    let one : suc (length c.loop-node.yielded) ≡ length (c.loop-node.yielded ++ c.in-Some.node ∷ []) = omega (arith, length-append c.loop-node.yielded (c.in-Some.node ∷ [])) in
    record {
      before = at.1 ∙ ap (λ j. prior (nodes_of c.args.self.now.heads c.args.self.now.cells.now c.args.table) j) one;
      passed = subst (Passed (to_z w32 (of_z w32 c.args.key)) (rows_of c.args.self.now.heads c.args.self.now.cells.now c.args.table)) (omega (arith, one)) (passed_more (to_z w32 (of_z w32 c.args.key)) (rows_of c.args.self.now.heads c.args.self.now.cells.now c.args.table) (length c.loop-node.yielded) no_entry (omega (arith, at.0)) c.loop-node.invariant.passed (subst (λ z. z <ℤ to_z w32 (of_z w32 c.args.key)) (ap (λ e. e.key) entry) (int_ranked _ _ _ c.in-Less.ensures)));
    }

pub returns-in-Equal : goal.returns-in-Equal
returns-in-Equal c =
    let lr = length_rows c.args.self.now.heads c.args.self.now.cells.now c.args.table in
    let first : nodes_left c.into_iter-node-iterator.result ≡ nodes_of c.args.self.now.heads c.args.self.now.cells.now c.args.table = search rules in
    let at = turn c.into_iter-node-iterator.result c.loop-node.node-iterator c.next.new.self (nodes_of c.args.self.now.heads c.args.self.now.cells.now c.args.table) c.loop-node.yielded c.in-Some.node first c.loop-node.yielded_by c.in-Some.ensures.steps in
    let entry = held_there c.args.self.now.heads c.args.self.now.cells.now c.args.table (length c.loop-node.yielded) c.in-Some.node c.element-entry.result at (c.element-entry.ensures no_entry) in
    spot_found (to_z w32 (of_z w32 c.args.key)) (nodes_of c.args.self.now.heads c.args.self.now.cells.now c.args.table) (rows_of c.args.self.now.heads c.args.self.now.cells.now c.args.table) (length c.loop-node.yielded) c.loop-node.before c.loop-node.invariant.before
    (found_at (to_z w32 (of_z w32 c.args.key)) (rows_of c.args.self.now.heads c.args.self.now.cells.now c.args.table) (length c.loop-node.yielded) no_entry (omega (arith, at.0)) c.loop-node.invariant.passed (sym (ap (λ e. e.key) entry) ∙ (int_ranked _ _ _ c.in-Equal.ensures)))
    ∙ ap (λ k. spot k (nodes_of c.args.self.now.heads c.args.self.now.cells.now c.args.table) (rows_of c.args.self.now.heads c.args.self.now.cells.now c.args.table)) (to_z-of_z w32 c.args.key c.ranges.key)

pub returns-in-Greater : goal.returns-in-Greater
returns-in-Greater c =
    let lr = length_rows c.args.self.now.heads c.args.self.now.cells.now c.args.table in
    let first : nodes_left c.into_iter-node-iterator.result ≡ nodes_of c.args.self.now.heads c.args.self.now.cells.now c.args.table = search rules in
    let at = turn c.into_iter-node-iterator.result c.loop-node.node-iterator c.next.new.self (nodes_of c.args.self.now.heads c.args.self.now.cells.now c.args.table) c.loop-node.yielded c.in-Some.node first c.loop-node.yielded_by c.in-Some.ensures.steps in
    let entry = held_there c.args.self.now.heads c.args.self.now.cells.now c.args.table (length c.loop-node.yielded) c.in-Some.node c.element-entry.result at (c.element-entry.ensures no_entry) in
    spot_missed (to_z w32 (of_z w32 c.args.key)) (nodes_of c.args.self.now.heads c.args.self.now.cells.now c.args.table) (rows_of c.args.self.now.heads c.args.self.now.cells.now c.args.table) (length c.loop-node.yielded) c.loop-node.before c.loop-node.invariant.before
    (missed_at (to_z w32 (of_z w32 c.args.key)) (rows_of c.args.self.now.heads c.args.self.now.cells.now c.args.table) (length c.loop-node.yielded) no_entry (omega (arith, at.0)) c.loop-node.invariant.passed (subst (λ z. to_z w32 (of_z w32 c.args.key) <ℤ z) (ap (λ e. e.key) entry) (int_ranked _ _ _ c.in-Greater.ensures)))
    ∙ ap (λ k. spot k (nodes_of c.args.self.now.heads c.args.self.now.cells.now c.args.table) (rows_of c.args.self.now.heads c.args.self.now.cells.now c.args.table)) (to_z-of_z w32 c.args.key c.ranges.key)

pub returns : goal.returns
returns c =
    let lr = length_rows c.args.self.now.heads c.args.self.now.cells.now c.args.table in
    let first : nodes_left c.into_iter-node-iterator.result ≡ nodes_of c.args.self.now.heads c.args.self.now.cells.now c.args.table = search rules in
    let end = YieldsList-end (YieldsList-from_first (λ x. x) nodes_left (nodes_of c.args.self.now.heads c.args.self.now.cells.now c.args.table) first) c.loop-node.yielded c.loop-node.node-iterator c.loop-node.yielded_by None c.next.new.self refl c.in-None.ensures.steps in
    spot_missed (to_z w32 (of_z w32 c.args.key)) (nodes_of c.args.self.now.heads c.args.self.now.cells.now c.args.table) (rows_of c.args.self.now.heads c.args.self.now.cells.now c.args.table) (length c.loop-node.yielded) c.loop-node.before c.loop-node.invariant.before
    (passed_all (to_z w32 (of_z w32 c.args.key)) (rows_of c.args.self.now.heads c.args.self.now.cells.now c.args.table) (length c.loop-node.yielded) (omega (arith, end.1)) c.loop-node.invariant.passed)
    ∙ ap (λ k. spot k (nodes_of c.args.self.now.heads c.args.self.now.cells.now c.args.table) (rows_of c.args.self.now.heads c.args.self.now.cells.now c.args.table)) (to_z-of_z w32 c.args.key c.ranges.key)
