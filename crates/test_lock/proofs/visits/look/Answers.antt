use Rattle.test_lock.proofs.Visiting.{looked}
use Rattle.test_lock.proofs.visits.look.Goals as goal

-- nobody was inside
pub returns-clause-empty : goal.returns-clause-empty
returns-clause-empty c = (looked c.args.seat.now.number c.args.seat.now.held c.args.seat.now.pass 0 c.load_as_uncounted.result _
    c.requires.held c.requires.outside c.load_as_uncounted.ensures.made).0
