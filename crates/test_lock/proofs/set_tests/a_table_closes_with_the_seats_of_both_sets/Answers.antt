use Rattle.test_lock.proofs.SetSeats.{idle_again}
use Rattle.test_lock.proofs.set_tests.a_table_closes_with_the_seats_of_both_sets.Goals as goal

-- the seats of both sets were idle, and each was given back
pub close_both-requires-clause-all : goal.close_both-requires-clause-all
close_both-requires-clause-all g c =
    (c.open_two-table.ensures.all.0, idle_again _ _ _ _ _ c.open_two-table.ensures.all.1 c.refuse_meanwhile.ensures.back.0 c.refuse_meanwhile.ensures.back.1)
