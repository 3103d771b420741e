use Rattle.std.proofs.Common.{◌≡◌, true, ap, ◌∙◌, arith, rules}
use Rattle.chain.specs.Lists.{nodes_of, Before}
use Rattle.store.specs.Meaning.{is_table, rank}
use Rattle.store.proofs.Calls.{table_from}
use Rattle.store.proofs.Rows.{rank_lt}
use Rattle.store.proofs.Keeping.{take_here}
use Rattle.chained_store.specs.Tables.{rows_of}
use Rattle.chained_store.proofs.Boards.{held, length_rows, found}
use Rattle.chained_store.proofs.tables.ChainedStoreStore.take.Goals as goal

pub remove-requires : goal.remove-requires
remove-requires c =
    let it : is_table c.args.table ≡ true = search rules in
    let within = table_from c.args.table it in
    let f = found c.args.key (nodes_of c.args.self.now.raw.heads c.args.self.now.raw.cells.now c.args.table) (rows_of c.args.self.now.raw.heads c.args.self.now.raw.cells.now c.args.table) c.in-Ok.before c.ranges.key c.in-Ok.ensures in
    let l = rank_lt c.args.key (rows_of c.args.self.now.raw.heads c.args.self.now.raw.cells.now c.args.table) f.0 in
    let lr = length_rows c.args.self.now.raw.heads c.args.self.now.raw.cells.now c.args.table in
    record {
      from = omega arith;
      to = omega arith;
      at = (rank c.args.key (rows_of c.args.self.now.raw.heads c.args.self.now.raw.cells.now c.args.table), (omega arith, f.1), omega arith);
    }

pub returns : goal.returns
returns c =
    let it : is_table c.args.table ≡ true = search rules in
    let within = table_from c.args.table it in
    let f = found c.args.key (nodes_of c.args.self.now.raw.heads c.args.self.now.raw.cells.now c.args.table) (rows_of c.args.self.now.raw.heads c.args.self.now.raw.cells.now c.args.table) c.in-Ok.before c.ranges.key c.in-Ok.ensures in
    let l = rank_lt c.args.key (rows_of c.args.self.now.raw.heads c.args.self.now.raw.cells.now c.args.table) f.0 in
    let lr = length_rows c.args.self.now.raw.heads c.args.self.now.raw.cells.now c.args.table in
    let before : Before (nodes_of c.args.self.now.raw.heads c.args.self.now.raw.cells.now c.args.table) c.in-Ok.before (rank c.args.key (rows_of c.args.self.now.raw.heads c.args.self.now.raw.cells.now c.args.table)) = (omega arith, f.1) in
    let p = take_here c.args.self.now.limit (rows_of c.args.self.now.raw.heads c.args.self.now.raw.cells.now) c.args.table (omega arith) (omega arith) (held c.args.self.now).kept
    (rows_of c.remove.new.self.heads c.remove.new.self.cells.now) (λ v a b ne. c.remove.ensures.there v a (omega arith) ne) c.args.key c.remove.result.row f.0
    (ap (λ e. e.row) (c.remove.ensures.answer (rank c.args.key (rows_of c.args.self.now.raw.heads c.args.self.now.raw.cells.now c.args.table)) before (omega arith)))
    (c.remove.ensures.here (rank c.args.key (rows_of c.args.self.now.raw.heads c.args.self.now.raw.cells.now c.args.table)) before (omega arith)) in
    record { answer = p.0; after = p.1 }

pub invariant_of-self : goal.invariant_of-self
invariant_of-self c =
    let it : is_table c.args.table ≡ true = search rules in
    let within = table_from c.args.table it in
    let f = found c.args.key (nodes_of c.args.self.now.raw.heads c.args.self.now.raw.cells.now c.args.table) (rows_of c.args.self.now.raw.heads c.args.self.now.raw.cells.now c.args.table) c.in-Ok.before c.ranges.key c.in-Ok.ensures in
    let l = rank_lt c.args.key (rows_of c.args.self.now.raw.heads c.args.self.now.raw.cells.now c.args.table) f.0 in
    let lr = length_rows c.args.self.now.raw.heads c.args.self.now.raw.cells.now c.args.table in
    let before : Before (nodes_of c.args.self.now.raw.heads c.args.self.now.raw.cells.now c.args.table) c.in-Ok.before (rank c.args.key (rows_of c.args.self.now.raw.heads c.args.self.now.raw.cells.now c.args.table)) = (omega arith, f.1) in
    let p = take_here c.args.self.now.limit (rows_of c.args.self.now.raw.heads c.args.self.now.raw.cells.now) c.args.table (omega arith) (omega arith) (held c.args.self.now).kept
    (rows_of c.remove.new.self.heads c.remove.new.self.cells.now) (λ v a b ne. c.remove.ensures.there v a (omega arith) ne) c.args.key c.remove.result.row f.0
    (ap (λ e. e.row) (c.remove.ensures.answer (rank c.args.key (rows_of c.args.self.now.raw.heads c.args.self.now.raw.cells.now c.args.table)) before (omega arith)))
    (c.remove.ensures.here (rank c.args.key (rows_of c.args.self.now.raw.heads c.args.self.now.raw.cells.now c.args.table)) before (omega arith)) in
    record { limited = p.2.limited; size = c.remove.ensures.size ∙ c.args.self.now.size; within = p.2.within; ascends = p.2.ascends }
