use Rattle.std.proofs.Common.{sym, ◌∙◌}
use Rattle.cases.proofs.Walks.{lists_count}
use Rattle.cases.proofs.view.Case.lists.Goals as goal

pub returns : goal.returns
returns c = c.index_at.ensures.value ∙ sym (lists_count c.args.self.now.file.bytes.now c.args.self.now.file.records 11 _)
