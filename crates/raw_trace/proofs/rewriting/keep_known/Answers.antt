use Rattle.std.proofs.Common.{inr}
use Rattle.raw_trace.proofs.rewriting.keep_known.Goals as goal

-- the beginning of a line isn't known
pub returns-in-Some-clause-fault : goal.returns-in-Some-clause-fault
returns-in-Some-clause-fault c = inr (_, c.in-Ok.is, _, c.in-Some.is, c.unknown_at.ensures)
