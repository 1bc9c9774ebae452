use Rattle.trace_threads.proofs.Collecting.{made, collected}
use Rattle.trace_threads.proofs.laws.plays_are_collected.Goals as goal

-- both laws of what workers have played
pub returns : goal.returns
returns c = record { made = made; collected = collected }
