use Rattle.event_count.proofs.Steps.{counts_each}
use Rattle.event_count.proofs.laws.counts_each_sleeper.Goals as goal

-- the rule says so
pub returns : goal.returns
returns c = counts_each
