use Rattle.std.proofs.Common.{◌-◌, arith, rules}
use Rattle.store.proofs.Calls.{table_from, limit_from}
use Rattle.side_store.proofs.Rooms.{found, take_done}
use Rattle.side_store.proofs.tables.SideStoreStore.take.Goals as goal

pub close-requires-clause-order : goal.close-requires-clause-order
close-requires-clause-order c =
    let m = found c.args.self.now c.args.table c.in_ok-places.places c.in_ok-places.ensures.here c.args.key c.in-Ok.at c.ranges.key c.in-Ok.ensures in
    omega (arith, m.0, c.in_ok-places.ensures.here.2)

pub overflow_add-places : goal.overflow_add-places
overflow_add-places c = let lt = close-requires-clause-order c in search rules

pub bounds-self-places : goal.bounds-self-places
bounds-self-places c =
    let m = found c.args.self.now c.args.table c.in_ok-places.places c.in_ok-places.ensures.here c.args.key c.in-Ok.at c.ranges.key c.in-Ok.ensures in
    let h = table_from c.args.table c.in_ok-places.ensures.here.0 in
    omega (arith, m.0, c.in_ok-places.ensures.here.3, c.args.self.now.within (c.args.table - 1) (omega arith))

pub overflow_add-entry : goal.overflow_add-entry
overflow_add-entry c = let i = bounds-self-places c in search rules

pub offset_bounds-self-places : goal.offset_bounds-self-places
offset_bounds-self-places c =
    let i = bounds-self-places c in
    let m = limit_from c.args.self.now.limit c.args.self.now.limited in
    let s = c.args.self.now.size in
    search rules

pub invariant_of-self : goal.invariant_of-self
invariant_of-self c =
    let h = (take_done c.args.self.now c.args.table c.in_ok-places.places c.in_ok-places.ensures.here c.args.key c.in-Ok.at c.close.new.items c.ranges.key c.in-Ok.ensures c.close.ensures).2 in
    record { limited = h.limited; size = h.size; width = h.width; within = h.within; ascends = h.ascends }

pub returns-in-Ok : goal.returns-in-Ok
returns-in-Ok c =
    let p = take_done c.args.self.now c.args.table c.in_ok-places.places c.in_ok-places.ensures.here c.args.key c.in-Ok.at c.close.new.items c.ranges.key c.in-Ok.ensures c.close.ensures in
    record { answer = p.0; after = p.1 }
