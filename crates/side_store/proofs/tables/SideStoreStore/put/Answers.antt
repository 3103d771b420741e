use Rattle.std.proofs.Common.{◌+◌, ◌≤◌, arith, rules}
use Rattle.side_store.proofs.Rooms.{missed, put_done}
use Rattle.side_store.proofs.tables.SideStoreStore.put.Goals as goal

pub open-requires-clause-order : goal.open-requires-clause-order
open-requires-clause-order c =
    let m = missed c.args.self.now c.args.table c.in_ok-places.places c.in_ok-places.ensures.here c.args.key c.in-Err.field-0 c.ranges.key c.in-Err.ensures in
    omega (arith, m.0, c.in_ok-places.ensures.here.2)

pub overflow_add-places : goal.overflow_add-places
overflow_add-places c =
    let m = missed c.args.self.now c.args.table c.in_ok-places.places c.in_ok-places.ensures.here c.args.key c.in-Err.field-0 c.ranges.key c.in-Err.ensures in
    let le : c.in_ok-places.places.start + c.in-Err.field-0 ≤ c.in_ok-places.places.end = omega (arith, m.0, c.in_ok-places.ensures.here.2) in
    search rules

pub invariant_of-self : goal.invariant_of-self
invariant_of-self c =
    let h = (put_done c.args.self.now c.args.table c.in_ok-places.places c.in_ok-places.ensures.here c.args.key c.args.row c.in-Err.field-0 c.open.new.items c.ranges.key c.in-Err.ensures (omega (arith, c.len.ensures)) c.open.ensures).2 in
    record { limited = h.limited; size = h.size; width = h.width; within = h.within; ascends = h.ascends }

pub returns-in-Err-2 : goal.returns-in-Err-2
returns-in-Err-2 c =
    let p = put_done c.args.self.now c.args.table c.in_ok-places.places c.in_ok-places.ensures.here c.args.key c.args.row c.in-Err.field-0 c.open.new.items c.ranges.key c.in-Err.ensures (omega (arith, c.len.ensures)) c.open.ensures in
    record { answer = p.0; after = p.1 }
