use Rattle.range_sets.proofs.NewSeats.{new_are_idle}
use Rattle.test_lock.proofs.SetSeats.{both_idle}
use Rattle.test_lock.proofs.set_tests.open_two.Goals as goal

-- the seats of the new table are all of it, and hold nothing
pub next_set-p-requires : goal.next_set-p-requires
next_set-p-requires g c = record { idle = new_are_idle _ _ _ c.in-Ok.ensures.seats.1 }

-- the seats of both sets are those of the new table, in order
pub returns-clause-all : goal.returns-clause-all
returns-clause-all g c = (c.in-Ok.ensures.shape.0, both_idle _ _ _ _ _ _ _ c.in-Ok.ensures.seats.1 c.next_set-p.ensures.first c.next_set-q.ensures.first)
