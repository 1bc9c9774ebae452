use Rattle.std.proofs.Common.{◌≡◌, Ok, Err, subst}
use Rattle.range_rw.specs.Attempts.{IsAttempt}
use Rattle.range_rw.specs.Contract.{TableShape, SeatState}
use Rattle.range_rw.specs.Seats.{is_fast, seat_of, seat_state_of}
use Rattle.range_rw.proofs.Choosing.{attempt_held, attempt_refused}
use Rattle.range_rw.proofs.Pieces.{is_there}
use Rattle.range_rw.proofs.Seated.{free_is, free_seated, alone_seated}
use Rattle.range_rw.proofs.table.RangeTable.attempt.Given.{Over}
use Rattle.range_rw.proofs.table.RangeTable.attempt.Goals.{After-list}
use Rattle.range_rw.proofs.table.RangeTable.attempt.Goals as goal

-- the seat before, which holds nothing
was : (g : Over) (c : After-list g) → seat_state_of c.seat.inside.hand ≡ c.args.seat.now
was g c = free_is c.seat.inside.hand c.seat.inside.quick c.seat.view_is c.requires.free

-- the hand has no node of its own, and none in its hand
-- so the seat holds nothing in any list
-- the range is held
pub returns-in-Ok-clause-made : goal.returns-in-Ok-clause-made
returns-in-Ok-clause-made g c = let left = c.leave_and_count-lists.ensures.left in let tried = c.in-Ok.ensures.tried in
    let h = (goal.at.returns-in-Ok-clause-made g c).After-list in let k = c.try_hold-tried.new.hand in
    subst (λ (z : TableShape × SeatState _). IsAttempt z.0 c.args.patient c.args.looks (record { range = c.args.range; mode = c.args.mode }) (Ok tt) z.1
    (seat_of (is_fast c.in-Ok.quick k) k)) (λ i. (c.self.view_is i, was g h i))
    (attempt_held _ c.args.patient c.args.looks (record { range = c.args.range; mode = c.args.mode }) left.is left.counted.table tried.counted.table
    (is_there c.list.ensures.list c.list.ensures.there) tried.is c.try_hold-tried.ensures.each)

-- it is between two calls
pub invariant_of-seat : goal.invariant_of-seat
invariant_of-seat g c = alone_seated (is_there c.list.ensures.list c.list.ensures.there) c.in-Ok.ensures.tried.is.call.held

-- the range is refused
pub returns-in-Err-clause-made : goal.returns-in-Err-clause-made
returns-in-Err-clause-made g c = let left = c.leave_and_count-lists.ensures.left in let tried = c.in-Err.ensures.tried in
    let h = (goal.at.returns-in-Err-clause-made g c).After-list in let k = c.try_hold-tried.new.hand in let fast = is_fast c.seat.inside.quick k in
    subst (λ (z : TableShape × SeatState _). IsAttempt {A = Unit {0}} z.0 c.args.patient c.args.looks (record { range = c.args.range; mode = c.args.mode })
    (Err c.in-Err.why) z.1
    (seat_of fast k)) (λ i. (c.self.view_is i, was g h i))
    (attempt_refused _ c.args.patient c.args.looks (record { range = c.args.range; mode = c.args.mode }) left.is left.counted.table tried.counted.table
    (is_there c.list.ensures.list c.list.ensures.there) fast tried.is c.try_hold-tried.ensures.each)

-- it is between two calls
pub invariant_of-seat-in-Err : goal.invariant_of-seat-in-Err
invariant_of-seat-in-Err g c = free_seated c.try_hold-tried.new.hand.part (is_there c.list.ensures.list c.list.ensures.there)
    c.in-Err.ensures.tried.is.call.free
