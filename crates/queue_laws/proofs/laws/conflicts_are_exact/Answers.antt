use Rattle.queue_laws.proofs.Conflicting.{conflicts_are_exact_law}
use Rattle.queue_laws.proofs.laws.conflicts_are_exact.Goals as goal

-- the machine's test for a conflict is the lock's
pub returns : goal.returns
returns c = conflicts_are_exact_law
