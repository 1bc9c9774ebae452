use Rattle.std.proofs.Common.{arith}
use Rattle.round_trip.proofs.LogsRead.{each_next}
use Rattle.history_check.specs.Checking.{IsNarrow}
use Rattle.history_check.proofs.laws.narrow_fit.Goals as goal

-- with the next entry, whose numbers fit, those of all so far fit
pub entries-preserved : goal.entries-preserved
entries-preserved c = each_next IsNarrow c.args.entries.now c.entries.entry-index _ c.entries-test.true c.entries.invariant c.entry-item.is c.entry_fits.ensures

-- behind the last entry the numbers of all fit
pub returns : goal.returns
returns c = λ k d low. c.entries.invariant k d (omega (arith, c.entries-test.false))
