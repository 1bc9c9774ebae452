use Rattle.test_lock.proofs.Tallying.{may_read, was_read}
use Rattle.test_lock.proofs.adds.read.Goals as goal

-- the seat holds the word as a writer
pub load_as_uncounted-requires-clause-allowed : goal.load_as_uncounted-requires-clause-allowed
load_as_uncounted-requires-clause-allowed c = may_read c.args.seat.now.number c.args.seat.now.held c.args.seat.now.pass c.requires.held

-- the pass knows what was read
pub returns-clause-known : goal.returns-clause-known
returns-clause-known c = was_read c.args.seat.now.number c.args.seat.now.held c.args.seat.now.pass c.load_as_uncounted.result _ c.load_as_uncounted.ensures.made
