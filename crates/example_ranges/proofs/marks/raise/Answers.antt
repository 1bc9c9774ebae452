use Rattle.example_ranges.proofs.Marking.{may_raise, was_raised}
use Rattle.example_ranges.proofs.marks.raise.Goals as goal

-- the guard allows the rise
pub store_as_uncounted-requires-clause-allowed : goal.store_as_uncounted-requires-clause-allowed
store_as_uncounted-requires-clause-allowed c = may_raise c.args.seat.now.number c.args.seat.now.held c.args.seat.now.pass c.args.to
    c.requires.held c.requires.sure c.requires.rises

-- the seat knows the mark that it stored
pub returns-clause-known : goal.returns-clause-known
returns-clause-known c = was_raised c.args.seat.now.number c.args.seat.now.held c.args.seat.now.pass c.args.to _ _ c.store_as_uncounted.ensures.made.1
