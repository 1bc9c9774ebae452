use Rattle.std.proofs.Common.{rules}
use Rattle.raw_logs.proofs.HealedLines.{takes_none}
use Rattle.raw_logs.proofs.healing.Healer.new.Goals as goal

-- nothing was read
pub returns-clause-takes : goal.returns-clause-takes
returns-clause-takes c = search (rules, takes_none)
