use Rattle.std.proofs.Common.{slice_range, ap, ◌∙◌, w32, to_z, of_z, rules}
use Rattle.std.proofs.lemmas.Int.{to_z-of_z}
use Rattle.std.proofs.lemmas.List.Sorted.{answers_always}
use Rattle.store.specs.Meaning.{sought}
use Rattle.side_store.proofs.Seeking.{sought_by}
use Rattle.side_store.proofs.tables.SideStore.find.Goals as goal

-- the closure tells a row's key
pub returns : goal.returns
returns c =
    let facts = c.binary_search_by_key.ensures in
    let by_key = facts.position (λ e. e.key) (answers_always _ _ _ (λ f a r g called. search rules)) in
    sought_by (to_z w32 (of_z w32 c.args.key)) _ _ c.requires.ascends facts.bound by_key
    ∙ ap (λ k. sought k (slice_range c.args.self.now.slots.now c.args.places.now.start c.args.places.now.end)) (to_z-of_z w32 c.args.key c.ranges.key)
