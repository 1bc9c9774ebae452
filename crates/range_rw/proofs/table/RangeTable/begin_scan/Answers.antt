use Rattle.std.proofs.Common.{◌≡◌, ◌<◌, ◌+◌, ap, ◌∙◌, arith}
use Rattle.epoch_pools.specs.declared.views.SeatPart.{SeatPart}
use Rattle.epoch_pools.specs.declared.views.Beside.{Beside}
use Rattle.range_rw.specs.Contract.{TableShape, SeatState}
use Rattle.range_rw.specs.Scan.{ClosesEpoch, OpensEpoch}
use Rattle.range_rw.proofs.SeatedScans.{scan_seat, scan_seated, scan_shown, opens_fresh, is_left, left_rests, turn_later, scan_on, enters}
use Rattle.range_rw.proofs.table.RangeTable.begin_scan.Given.{Over}
use Rattle.range_rw.proofs.table.RangeTable.begin_scan.Goals.{After-view, After-enter}
use Rattle.range_rw.proofs.table.RangeTable.begin_scan.Goals as goal

-- the seat holds nothing, and its hand leaves its epoch
out : (g : Over) (c : After-view g) → ClosesEpoch c.seat.inside.hand.part c.leave_epoch.new.hand.part
out g c = let l = c.leave_epoch.ensures.left.is in is_left c.seat.inside.hand.part c.leave_epoch.new.hand.part
    (scan_seat c.seat.inside.hand.part c.seat.invariant (ap (λ (s : SeatState _). s.held) c.seat.view_is ∙ c.requires.free)) l.later l.asked l.free l.ready
    c.view.ensures.sound

-- and enters one in list 0
opened : (g : Over) (c : After-enter g) → ClosesEpoch c.seat.inside.hand.part c.leave_epoch.new.hand.part
    → OpensEpoch 0 c.seat.inside.hand.part c.enter.new.hand.part
opened g c left = let p = c.seat.inside.hand.part in let m = c.leave_epoch.new.hand.part in let t = c.turn.new.self.part in
    let more : 0 < m.pass.lists = (let e = left.later.seat.within in omega arith) in
    enters p t c.enter.new.hand.part 0 (scan_on p m t left.later (turn_later m t 0 left.later.seat c.turn.ensures.part c.turn.ensures.stays
    c.turn.ensures.rests more)) (ap (λ (x : SeatPart (Beside _)). x.pass.list) c.turn.ensures.part) c.turn.ensures.rests.outside c.enter.ensures.made

-- there is a list 0
pub turn-requires-clause-there : goal.turn-requires-clause-there
turn-requires-clause-there g c = let e = (out g (goal.at.turn-requires-clause-there g c).After-view).later.seat.within in omega arith

-- outside its epoch the hand rests
pub turn-requires-clause-resting : goal.turn-requires-clause-resting
turn-requires-clause-resting g c = left_rests c.seat.inside.hand.part c.leave_epoch.new.hand.part
    (out g (goal.at.turn-requires-clause-resting g c).After-view)

-- it is between two calls still
pub invariant_of-seat : goal.invariant_of-seat
invariant_of-seat g c = let h = goal.at.invariant_of-seat g c in scan_seated c.enter.new.hand.part (opened g h.After-enter (out g h.After-view)).later.seat

-- the call is one of a scan
pub returns-clause-call : goal.returns-clause-call
returns-clause-call g c = let h = goal.at.returns-clause-call g c in scan_shown c.seat.inside.hand c.enter.new.hand c.seat.inside.quick c.seat.view_is
    c.requires.free
    (c.enter.ensures.table ∙ (c.turn.ensures.table ∙ c.leave_epoch.ensures.left.counted.table)) (opened g h.After-enter (out g h.After-view)).later

-- and the scan a fresh one, in list 0
pub returns-clause-begun : goal.returns-clause-begun
returns-clause-begun g c = let h = goal.at.returns-clause-begun g c in opens_fresh 0 c.seat.inside.hand.part c.enter.new.hand.part c.args.self.now.seats
    (ap (λ (x : SeatPart (Beside _)). x.seats) c.enter.ensures.made ∙ (c.enter.ensures.seats ∙ ap (λ (t : TableShape). t.seats) c.self.view_is))
    (opened g h.After-enter (out g h.After-view))

-- in two steps at most
pub returns-clause-bound : goal.returns-clause-bound
returns-clause-bound g c = let a = c.leave_epoch.ensures.left.is.few in let w = ap (λ (s : SeatState _). s.trace.taken) c.seat.view_is in
    let b : c.turn.new.self.part.trace.taken ≡ c.leave_epoch.new.hand.part.trace.taken = ap (λ (x : SeatPart (Beside _)). x.trace.taken) c.turn.ensures.part in
    let n : c.enter.new.hand.part.trace.taken ≡ c.turn.new.self.part.trace.taken + 1 = ap (λ (x : SeatPart (Beside _)). x.trace.taken) c.enter.ensures.made in
    omega arith
