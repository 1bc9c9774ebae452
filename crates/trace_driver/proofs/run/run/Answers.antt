use Rattle.trace_driver.proofs.Outcomes.{complete}
use Rattle.trace_driver.proofs.Printed.{logs_good}
use Rattle.trace_driver.proofs.run.run.Goals as goal

-- the status is the only one that the words and the bytes call for, unless something hindered the run
pub returns-clause-complete : goal.returns-clause-complete
returns-clause-complete g c = λ bytes known.
    complete _ c.report-status.ensures.one bytes _ _ _ _ _ _ (rw known at c.report-status.ensures.out)
    (rw known at c.report-status.ensures.verdict) (rw known at c.report-status.ensures.cause)

-- the log that was printed is good
pub returns-clause-logs_are_good : goal.returns-clause-logs_are_good
returns-clause-logs_are_good g c = logs_good _ _ _ _ _ _ c.report-status.ensures.one c.report-status.ensures.out c.carried_logs_are_good.ensures
