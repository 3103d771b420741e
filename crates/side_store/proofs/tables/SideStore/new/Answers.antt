use Rattle.std.proofs.Common.{◌-◌, ◌*◌, take, drop, replicate, refl, ap, arith}
use Rattle.std.proofs.lemmas.List.{get_or-replicate}
use Rattle.store.proofs.Keeping.{storing_none}
use Rattle.side_store.specs.Parts.{part}
use Rattle.side_store.proofs.tables.SideStore.new.Goals as goal

pub returns : goal.returns
returns c = record {
  meaning = storing_none c.args.limit (λ t. part c.args.limit (replicate 8 0) (take (8 * c.args.limit) c.args.slots.now) (t - 1))
      (λ t a b. ap (λ n. take n (drop ((t - 1) * c.args.limit) (take (8 * c.args.limit) c.args.slots.now))) (get_or-replicate 8 (t - 1) 0 0 (omega arith)));
  memory = refl;
}
