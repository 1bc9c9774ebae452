use Rattle.trace_driver.proofs.OneWorker.{one_history}
use Rattle.trace_driver.proofs.laws.one_worker_plays_one_history.Goals as goal

-- the law of one worker's history
pub returns : goal.returns
returns c = one_history
