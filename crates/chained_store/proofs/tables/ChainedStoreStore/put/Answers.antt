use Rattle.std.proofs.Common.{◌≡◌, true, ap, ◌∙◌, arith, w32, rules}
use Rattle.std.specs.List.{insert}
use Rattle.std.proofs.lemmas.Int.{to_z-of_z}
use Rattle.chain.specs.Lists.{nodes_of, Before}
use Rattle.store.specs.Meaning.{is_table, rank}
use Rattle.store.proofs.Calls.{table_from}
use Rattle.store.proofs.Rows.{rank_le}
use Rattle.store.proofs.Keeping.{put_here}
use Rattle.chained_store.specs.Tables.{rows_of}
use Rattle.chained_store.proofs.Boards.{held, length_rows, room, missed}
use Rattle.chained_store.proofs.tables.ChainedStoreStore.put.Goals as goal

pub insert-requires : goal.insert-requires
insert-requires c =
    let it : is_table c.args.table ≡ true = search rules in
    let within = table_from c.args.table it in
    let f = missed c.args.key (nodes_of c.args.self.now.raw.heads c.args.self.now.raw.cells.now c.args.table) (rows_of c.args.self.now.raw.heads c.args.self.now.raw.cells.now c.args.table) c.in-Err.before c.ranges.key c.in-Err.ensures in
    let h = held c.args.self.now in
    record {
      from = omega arith;
      to = omega arith;
      at = (rank c.args.key (rows_of c.args.self.now.raw.heads c.args.self.now.raw.cells.now c.args.table), (omega (arith, rank_le c.args.key (rows_of c.args.self.now.raw.heads c.args.self.now.raw.cells.now c.args.table), length_rows c.args.self.now.raw.heads c.args.self.now.raw.cells.now c.args.table), f.1));
      room = room _ _ _ h c.args.table (omega arith) (omega arith) (omega (arith, c.rows.ensures));
    }

pub returns : goal.returns
returns c =
    let it : is_table c.args.table ≡ true = search rules in
    let within = table_from c.args.table it in
    let f = missed c.args.key (nodes_of c.args.self.now.raw.heads c.args.self.now.raw.cells.now c.args.table) (rows_of c.args.self.now.raw.heads c.args.self.now.raw.cells.now c.args.table) c.in-Err.before c.ranges.key c.in-Err.ensures in
    let before : Before (nodes_of c.args.self.now.raw.heads c.args.self.now.raw.cells.now c.args.table) c.in-Err.before (rank c.args.key (rows_of c.args.self.now.raw.heads c.args.self.now.raw.cells.now c.args.table)) = (omega (arith, rank_le c.args.key (rows_of c.args.self.now.raw.heads c.args.self.now.raw.cells.now c.args.table), length_rows c.args.self.now.raw.heads c.args.self.now.raw.cells.now c.args.table), f.1) in
    let p = put_here c.args.self.now.limit (rows_of c.args.self.now.raw.heads c.args.self.now.raw.cells.now) c.args.table (omega arith) (omega arith) (held c.args.self.now).kept
    (rows_of c.insert.new.self.heads c.insert.new.self.cells.now) (λ v a b ne. c.insert.ensures.there v a (omega arith) ne) (record { key = c.args.key; row = c.args.row }) f.0 (omega (arith, c.rows.ensures))
    (c.insert.ensures.here (rank c.args.key (rows_of c.args.self.now.raw.heads c.args.self.now.raw.cells.now c.args.table)) before
    ∙ ap (λ k. insert (rows_of c.args.self.now.raw.heads c.args.self.now.raw.cells.now c.args.table) (rank c.args.key (rows_of c.args.self.now.raw.heads c.args.self.now.raw.cells.now c.args.table)) (record { key = k; row = c.args.row })) (to_z-of_z w32 c.args.key c.ranges.key)) in
    record { answer = p.0; after = p.1 }

pub invariant_of-self : goal.invariant_of-self
invariant_of-self c =
    let it : is_table c.args.table ≡ true = search rules in
    let within = table_from c.args.table it in
    let f = missed c.args.key (nodes_of c.args.self.now.raw.heads c.args.self.now.raw.cells.now c.args.table) (rows_of c.args.self.now.raw.heads c.args.self.now.raw.cells.now c.args.table) c.in-Err.before c.ranges.key c.in-Err.ensures in
    let before : Before (nodes_of c.args.self.now.raw.heads c.args.self.now.raw.cells.now c.args.table) c.in-Err.before (rank c.args.key (rows_of c.args.self.now.raw.heads c.args.self.now.raw.cells.now c.args.table)) = (omega (arith, rank_le c.args.key (rows_of c.args.self.now.raw.heads c.args.self.now.raw.cells.now c.args.table), length_rows c.args.self.now.raw.heads c.args.self.now.raw.cells.now c.args.table), f.1) in
    let p = put_here c.args.self.now.limit (rows_of c.args.self.now.raw.heads c.args.self.now.raw.cells.now) c.args.table (omega arith) (omega arith) (held c.args.self.now).kept
    (rows_of c.insert.new.self.heads c.insert.new.self.cells.now) (λ v a b ne. c.insert.ensures.there v a (omega arith) ne) (record { key = c.args.key; row = c.args.row }) f.0 (omega (arith, c.rows.ensures))
    (c.insert.ensures.here (rank c.args.key (rows_of c.args.self.now.raw.heads c.args.self.now.raw.cells.now c.args.table)) before
    ∙ ap (λ k. insert (rows_of c.args.self.now.raw.heads c.args.self.now.raw.cells.now c.args.table) (rank c.args.key (rows_of c.args.self.now.raw.heads c.args.self.now.raw.cells.now c.args.table)) (record { key = k; row = c.args.row })) (to_z-of_z w32 c.args.key c.ranges.key)) in
    record { limited = p.2.limited; size = c.insert.ensures.size ∙ c.args.self.now.size; within = p.2.within; ascends = p.2.ascends }
