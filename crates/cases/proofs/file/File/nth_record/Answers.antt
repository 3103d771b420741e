use Rattle.std.proofs.Common.{◌≡◌, ◌∙◌, sym, rules}
use Rattle.std.specs.Option.{option_map}
use Rattle.std.proofs.lemmas.Iterator.Consumers.{YieldsList-from_first, nth_from_yields_List}
use Rattle.cases.specs.Chains.{item, chain_from, pointer}
use Rattle.cases.specs.Trails.{trail_left}
use Rattle.cases.proofs.Walks.{trail_item, item_index, chain_past}
use Rattle.cases.proofs.file.File.nth_record.Goals as goal
use Rattle.cases.proofs.file.File.nth_record.Goals.{After-map}

found : (c : After-map) → c.map.result ≡ item (chain_from c.args.self.now.bytes.now c.args.self.now.records c.args.head) c.args.position
found c =
    let self = c.args.self.now in
    let mapped : c.map.result ≡ option_map (λ h. h.1) c.nth-link.result = search rules in
    let link = nth_from_yields_List c.nth-link.result c.nth-link.new.self c.args.position c.nth-link.ensures.ran (YieldsList-from_first (λ h. h) trail_left _ c.trail.ensures) in
    mapped ∙ trail_item self.bytes.now self.records self.records c.args.head c.args.position c.nth-link.result link

pub returns : goal.returns
returns c = record { value = found c; index = item_index c.args.self.now.bytes.now c.args.self.now.records c.args.head c.args.position c.map.result c.args.self.now.few (found c) }

pub returns-then-position-self : goal.returns-then-position-self
returns-then-position-self c =
    let self = c.args.self.now in
    record { value = sym (chain_past self.bytes.now self.records self.records (pointer self.bytes.now c.args.head) c.args.position c.if-position-self.true); index = tt }
