use Rattle.std.proofs.Common.{◌≡◌, length}
use Rattle.chain.specs.Lists.{nodes_of, prior}
use Rattle.store.proofs.Rows.{Passed}
use Rattle.chained_store.specs.Tables.{rows_of}
use Rattle.chained_store.proofs.records.Records.find.Given as goal

abbrev pub invariant-loop-node : goal.invariant-loop-node
invariant-loop-node l = record {
  before : l.before ≡ prior (nodes_of l.self.heads l.self.cells.now l.table) (length l.yielded);
  passed : Passed l.key (rows_of l.self.heads l.self.cells.now l.table) (length l.yielded);
}
