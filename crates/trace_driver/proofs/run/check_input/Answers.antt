use Rattle.trace_driver.proofs.RunLemmas.{has_check_cause, checked_nothing}
use Rattle.trace_driver.proofs.run.check_input.Goals as goal

-- an early end has its cause
pub returns-in-Err-clause-cause : goal.returns-in-Err-clause-cause
returns-in-Err-clause-cause g c words asked = rw c.status.ensures (has_check_cause words _ _ _ _ _ _ _ asked c.in-Err.ensures.stopped)

-- it wrote nothing
pub returns-in-Err-clause-verdict : goal.returns-in-Err-clause-verdict
returns-in-Err-clause-verdict g c = rw c.status.ensures (checked_nothing _ _ _ _ c.in-Err.end)
