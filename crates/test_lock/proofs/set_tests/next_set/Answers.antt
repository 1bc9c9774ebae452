use Rattle.test_lock.proofs.SetSeats.{free_four}
use Rattle.test_lock.proofs.set_tests.next_set.Goals as goal

-- each of the four holds nothing
pub new-requires-clause-free : goal.new-requires-clause-free
new-requires-clause-free g c =
    free_four _ _ _ _ c.next_seat-a.ensures.seat.1 c.next_seat-b.ensures.seat.1 c.next_seat-c.ensures.seat.1 c.next_seat-d.ensures.seat.1
