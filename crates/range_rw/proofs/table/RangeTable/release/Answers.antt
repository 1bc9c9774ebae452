use Rattle.std.proofs.Common.{sym, subst}
use Rattle.std.specs.Prelude.{is_some}
use Rattle.epoch_pools.specs.Beside.{shown_grant}
use Rattle.range_rw.specs.Contract.{SeatState, IsRelease}
use Rattle.range_rw.specs.Seats.{is_fast}
use Rattle.range_rw.proofs.Seated.{seated_release, given_seated, seat_holds, free_shown, both_true}
use Rattle.range_rw.proofs.table.RangeTable.release.Goals as goal

-- the hand holds the range, and the pass beside the list is at rest
-- what the hand gave back the seat released
pub returns-clause-release : goal.returns-clause-release
returns-clause-release g c =
    let was = c.seat.inside.hand in let now = c.unlink_or_mark.new.hand in let quick = c.seat.inside.quick in
    let rested = g.G.Guard.rested in let back = c.unlink_or_mark.ensures.back in
    let given = seated_release rested was.part now.part c.seat.invariant (seat_holds was c.seat.view_is c.seat.invariant c.requires.holds) back.is
    (is_fast quick was) was.table now.table back.counted.table
    -- by the fast path where that linked the node
    (λ e. c.unlink_or_mark.ensures.fast (both_true (is_some (shown_grant was.part)) quick e).1) in
    subst (λ (z : SeatState _ × SeatState _). IsRelease rested z.0 z.1) (λ i. (c.seat.view_is i, sym (free_shown now quick given.held) i)) given

-- and its hand is between two calls again
pub invariant_of-seat : goal.invariant_of-seat
invariant_of-seat g c = given_seated g.G.Guard.rested c.seat.inside.hand.part c.unlink_or_mark.new.hand.part c.seat.invariant
    (seat_holds c.seat.inside.hand c.seat.view_is c.seat.invariant c.requires.holds) c.unlink_or_mark.ensures.back.is
