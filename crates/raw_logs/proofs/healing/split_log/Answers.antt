use Rattle.raw_logs.proofs.HealedLines.{log_at, log_cut}
use Rattle.raw_logs.proofs.healing.split_log.Goals as goal

-- the last newline splits the text
pub returns-in-Some-clause-log : goal.returns-in-Some-clause-log
returns-in-Some-clause-log c = log_at _ _ _ _ c.split_at.ensures.front c.split_at.ensures.back c.in-Some.ensures

-- there is none
pub returns-in-None-clause-log : goal.returns-in-None-clause-log
returns-in-None-clause-log c = log_cut _ c.in-None.ensures
