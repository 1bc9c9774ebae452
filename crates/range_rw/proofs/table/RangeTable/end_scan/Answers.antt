use Rattle.std.proofs.Common.{ap, ◌∙◌, arith}
use Rattle.range_rw.specs.Contract.{SeatState}
use Rattle.range_rw.specs.Scan.{ClosesEpoch}
use Rattle.range_rw.proofs.SeatedScans.{scan_seat, scan_seated, scan_shown, is_left, closes_none}
use Rattle.range_rw.proofs.table.RangeTable.end_scan.Given.{Over}
use Rattle.range_rw.proofs.table.RangeTable.end_scan.Goals.{After-view}
use Rattle.range_rw.proofs.table.RangeTable.end_scan.Goals as goal

-- the seat holds nothing, and its hand leaves its epoch
out : (g : Over) (c : After-view g) → ClosesEpoch c.seat.inside.hand.part c.leave_epoch.new.hand.part
out g c = let l = c.leave_epoch.ensures.left.is in is_left c.seat.inside.hand.part c.leave_epoch.new.hand.part
    (scan_seat c.seat.inside.hand.part c.seat.invariant (ap (λ (s : SeatState _). s.held) c.seat.view_is ∙ c.requires.free)) l.later l.asked l.free l.ready
    c.view.ensures.sound

-- it is between two calls still
pub invariant_of-seat : goal.invariant_of-seat
invariant_of-seat g c = scan_seated c.leave_epoch.new.hand.part (out g (goal.at.invariant_of-seat g c).After-view).later.seat

-- the call is one of a scan
pub returns-clause-call : goal.returns-clause-call
returns-clause-call g c = scan_shown c.seat.inside.hand c.leave_epoch.new.hand c.seat.inside.quick c.seat.view_is c.requires.free
    c.leave_epoch.ensures.left.counted.table (out g (goal.at.returns-clause-call g c).After-view).later

-- and no scan is open
pub returns-clause-ended : goal.returns-clause-ended
returns-clause-ended g c = closes_none c.seat.inside.hand.part c.leave_epoch.new.hand.part (out g (goal.at.returns-clause-ended g c).After-view)

-- in one step at most
pub returns-clause-bound : goal.returns-clause-bound
returns-clause-bound g c = let b = c.leave_epoch.ensures.left.is.few in let w = ap (λ (s : SeatState _). s.trace.taken) c.seat.view_is in omega arith
