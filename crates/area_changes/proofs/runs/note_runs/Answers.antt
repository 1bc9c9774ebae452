use Rattle.std.proofs.Common.{arith}
use Rattle.area_changes.proofs.Running.{completes_end}
use Rattle.area_changes.proofs.runs.note_runs.Goals as goal

-- where no page is left the runs are all
pub returns : goal.returns
returns c = completes_end _ _ _ _ c.runs.at (omega (arith, c.runs-test.false, c.runs.invariant.0)) c.runs.invariant.1
