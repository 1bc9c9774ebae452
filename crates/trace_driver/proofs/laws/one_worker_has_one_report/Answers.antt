use Rattle.trace_driver.proofs.OneReport.{one_report}
use Rattle.trace_driver.proofs.laws.one_worker_has_one_report.Goals as goal

-- the law of one worker's report
pub returns : goal.returns
returns c = one_report
