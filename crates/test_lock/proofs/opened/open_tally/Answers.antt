use Rattle.std.proofs.Common.{arith}
use Rattle.test_lock.proofs.Tallying.{tally_begins}
use Rattle.test_lock.proofs.opened.open_tally.Goals as goal

pub open-requires-clause-rule : goal.open-requires-clause-rule
open-requires-clause-rule c = λ ok. tally_begins c.args.word c.args.seats _ ok.0 (omega (arith, c.ranges.word.fits))
