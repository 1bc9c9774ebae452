use Rattle.lock_core.proofs.Verdicts.{judges_by_conflict_law}
use Rattle.lock_core.proofs.laws.judges_by_conflict.Goals as goal

-- a verdict is a conflict exactly where the grants conflict
pub returns : goal.returns
returns c = judges_by_conflict_law
