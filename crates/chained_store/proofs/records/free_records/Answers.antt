use Rattle.std.proofs.Common.{◌≡◌, ℕ, List, ◌++◌, length, take, drop, sym, ap, ◌∙◌, subst, arith}
use Rattle.std.proofs.lemmas.List.{length-take-le, take-append-le, drop-append-le, take_all, drop_all}
use Rattle.chain.specs.Lists.{Sound, nodes_of}
use Rattle.chained_store.proofs.records.free_records.Goals as goal

-- the front of a list and what follows it
front : {X : Type 0} (n : ℕ) (xs ys : List X) → length xs ≡ n → (take n (xs ++ ys) ≡ xs) × (drop n (xs ++ ys) ≡ ys)
front n xs ys e = (
  take-append-le n xs ys (omega arith) ∙ take_all n xs (omega arith),
  drop-append-le n xs ys (omega arith) ∙ ap (λ t. t ++ ys) (drop_all n xs (omega arith)),
)

pub returns : goal.returns
returns c =
    let long = length-take-le c.args.records c.args.cells.now c.requires in
    let size : length c.free_all.new.cells ≡ c.args.records = omega (arith, c.free_all.auto.cells, long) in
    let f = front c.args.records c.free_all.new.cells (drop c.args.records c.args.cells.now) size in
    record {
      width = c.free_all.auto.heads;
      sound = subst (λ x. Sound c.free_all.new.heads x) (sym f.0) c.free_all.ensures.sound;
      empty = λ t a b. ap (λ x. nodes_of c.free_all.new.heads x t) f.0 ∙ c.free_all.ensures.empty t a (omega (arith, c.free_all.auto.heads));
      beyond = f.1;
    }
