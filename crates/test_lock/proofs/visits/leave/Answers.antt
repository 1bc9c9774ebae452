use Rattle.test_lock.proofs.Visiting.{may_leave, went_out}
use Rattle.test_lock.proofs.visits.leave.Goals as goal

-- the seat holds the door as a writer and is inside
pub add_as_uncounted-requires-clause-allowed : goal.add_as_uncounted-requires-clause-allowed
add_as_uncounted-requires-clause-allowed c = may_leave c.args.seat.now.number c.args.seat.now.held c.args.seat.now.pass 0 c.requires.held c.requires.inside

-- the seat was alone inside
pub returns-clause-one : goal.returns-clause-one
returns-clause-one c = (went_out c.args.seat.now.number c.args.seat.now.held c.args.seat.now.pass 0
    c.add_as_uncounted.result _ c.requires.inside c.add_as_uncounted.ensures.made).0
