use Rattle.std.proofs.Common.{subst, sym}
use Rattle.range_rw.specs.Contract.{AreIdleSeats}
use Rattle.test_lock.proofs.SetSeats.{both_given}
use Rattle.test_lock.proofs.set_tests.close_both.Goals as goal

-- the seats that the sets give back are theirs, in order
pub close-requires-clause-idle : goal.close-requires-clause-idle
close-requires-clause-idle c = subst (AreIdleSeats c.args.table.table) (sym c.in-Ok.ensures.items)
    (both_given _ _ _ _ _ c.into_seats-a.ensures c.into_seats-e.ensures c.requires.all.1)
