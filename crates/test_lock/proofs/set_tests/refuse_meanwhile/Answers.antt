use Rattle.test_lock.proofs.SetSeats.{held_and_back, let_go_back}
use Rattle.test_lock.proofs.set_tests.refuse_meanwhile.Goals as goal

-- the seats of one set were granted and released, and those of the other let go what they had got
pub returns-clause-back : goal.returns-clause-back
returns-clause-back g c = (held_and_back _ _ _ _ c.hold.ensures.calls c.release_set.ensures.released, let_go_back _ _ c.meet.ensures.let_go)
