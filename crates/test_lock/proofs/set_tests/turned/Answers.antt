use Rattle.std.proofs.Common.{subst, sym}
use Rattle.range_sets.specs.Sets.{AllFree}
use Rattle.test_lock.proofs.SetSeats.{turned_free}
use Rattle.test_lock.proofs.set_tests.turned.Goals as goal

-- the seats of the set hold nothing, and so they do in the other order
pub new-requires-clause-free : goal.new-requires-clause-free
new-requires-clause-free c = turned_free _ _ _ _ (subst AllFree (sym c.into_seats-a.ensures) c.requires.free)
