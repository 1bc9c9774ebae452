use Rattle.example_ranges.proofs.Marking.{may_read, was_read}
use Rattle.example_ranges.proofs.marks.read.Goals as goal

-- the guard allows the read
pub load_as_uncounted-requires-clause-allowed : goal.load_as_uncounted-requires-clause-allowed
load_as_uncounted-requires-clause-allowed c = may_read c.args.seat.now.number c.args.seat.now.held c.args.seat.now.pass c.requires.held

-- the mark isn't below what the seat had read before
pub returns-clause-risen : goal.returns-clause-risen
returns-clause-risen c = (was_read c.args.seat.now.number c.args.seat.now.held c.args.seat.now.pass
    c.load_as_uncounted.result _ c.load_as_uncounted.ensures.made).0

-- the seat is sure of the mark that it has read
pub returns-clause-known : goal.returns-clause-known
returns-clause-known c = (was_read c.args.seat.now.number c.args.seat.now.held c.args.seat.now.pass
    c.load_as_uncounted.result _ c.load_as_uncounted.ensures.made).1
