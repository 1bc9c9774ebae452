use Rattle.test_lock.proofs.Visiting.{may_enter, went_in}
use Rattle.test_lock.proofs.visits.enter_for.Goals as goal

-- the seat holds the door as a writer and is outside
pub add_as_uncounted-requires-clause-allowed : goal.add_as_uncounted-requires-clause-allowed
add_as_uncounted-requires-clause-allowed g c = may_enter c.args.seat.now.number c.args.seat.now.held c.args.seat.now.pass g.N.Noted.noted
    c.requires.held c.requires.outside

-- nobody was inside
pub returns-clause-empty : goal.returns-clause-empty
returns-clause-empty g c = (went_in c.args.seat.now.number c.args.seat.now.held c.args.seat.now.pass g.N.Noted.noted c.add_as_uncounted.result
    _ c.requires.held c.requires.outside c.add_as_uncounted.ensures.made).0
