use Rattle.range_sets.proofs.NewSeats.{new_are_idle}
use Rattle.test_lock.proofs.set_tests.open_untouched.Goals as goal

-- the seats of the new table are all of it, and hold nothing
pub next_seat-seat-requires : goal.next_seat-seat-requires
next_seat-seat-requires g c = record { idle = new_are_idle _ _ _ c.in-Ok.ensures.seats.1 }
