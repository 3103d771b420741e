use Rattle.std.proofs.Common.{◌≡◌, ℕ, get_or, ℤ, ◌<ℤ◌, Ok, ◌∙◌, subst, arith, w32, SFits, to_z, of_z, rules}
use Rattle.std.proofs.lemmas.Cmp.{int_ranked}
use Rattle.std.proofs.lemmas.Int.{to_z-of_z}
use Rattle.store.specs.Meaning.{Meaning, no_entry, key_at}
use Rattle.store.proofs.Rows.{passed_more}
use Rattle.store.proofs.Calls.{count_from, key_from}
use Rattle.store_tools.proofs.reads.position.Goals as goal

-- the key read, by its bits, is the entry's
key_read : (m : Meaning) (t i : ℕ) (k : ℤ) → SFits w32 k → Ok k ≡ key_at m t i → to_z w32 (of_z w32 k) ≡ (get_or (m.tables t) i no_entry).key
key_read m t i k f e = to_z-of_z w32 k f ∙ key_from m t i k e

pub loop-i-preserved : goal.loop-i-preserved
loop-i-preserved g c =
    let m = g.S.Store.meaning c.args.store.now in
    let n = count_from m c.args.table c.in_ok-rows.rows c.in_ok-rows.ensures.answer in
    let f : SFits w32 c.in_ok-found.found = search rules in
    let r = key_read m c.args.table c.loop-i.i c.in_ok-found.found f c.in_ok-found.ensures in
    passed_more (to_z w32 (of_z w32 c.args.key)) (m.tables c.args.table) c.loop-i.i no_entry (omega (arith, n.1)) c.loop-i.invariant
    (subst (λ z. z <ℤ to_z w32 (of_z w32 c.args.key)) r (int_ranked _ _ _ c.in-Less.ensures))
