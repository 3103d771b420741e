use Rattle.std.proofs.Common.{◌≡◌, ◌^◌, ◌<◌, ◌≤◌, ap, ◌∙◌, arith}
use Rattle.std.proofs.lemmas.Grind.{common_steps}
use Rattle.cases.specs.Chains.{pointer}
use Rattle.cases.specs.Meaning.{list_item, lists_from}
use Rattle.cases.proofs.Fours.{word_small}
use Rattle.cases.proofs.Walks.{lists_count, list_none, list_some}
use Rattle.cases.proofs.view.Case.list.Goals as goal

pub returns-then-not-contains : goal.returns-then-not-contains
returns-then-not-contains c =
    let self = c.args.self.now in
    let count : c.lists.result ≡ pointer self.file.bytes.now 10 = c.lists.ensures ∙ lists_count self.file.bytes.now self.file.records 11 _ in
    let none : 0 < c.args.list → c.args.list ≤ c.lists.result → ⊥ = grind (arith, common_steps) in
    list_none self.file.bytes.now self.file.records c.lists.result c.args.list c.args.position none
    ∙ ap (λ k. list_item (lists_from self.file.bytes.now self.file.records 11 k) c.args.list c.args.position) count

pub overflow_add-list : goal.overflow_add-list
overflow_add-list c =
    let self = c.args.self.now in
    let count : c.lists.result ≡ pointer self.file.bytes.now 10 = c.lists.ensures ∙ lists_count self.file.bytes.now self.file.records 11 _ in
    let le : c.args.list ≤ c.lists.result = grind (arith, common_steps) in
    let small : pointer self.file.bytes.now 10 < 2 ^ 31 = word_small self.file.bytes.now 10 in
    omega (arith, count, le, small)

pub returns : goal.returns
returns c =
    let self = c.args.self.now in
    let count : c.lists.result ≡ pointer self.file.bytes.now 10 = c.lists.ensures ∙ lists_count self.file.bytes.now self.file.records 11 _ in
    let some : 0 < c.args.list = grind (arith, common_steps) in
    let le : c.args.list ≤ c.lists.result = grind (arith, common_steps) in
    c.number.ensures ∙ list_some self.file.bytes.now self.file.records c.lists.result c.args.list c.args.position some le
    ∙ ap (λ k. list_item (lists_from self.file.bytes.now self.file.records 11 k) c.args.list c.args.position) count
