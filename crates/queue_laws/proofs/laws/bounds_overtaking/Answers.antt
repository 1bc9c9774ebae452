use Rattle.queue_laws.proofs.Waiting.{overtakes_once_law, overtakes_few_law}
use Rattle.queue_laws.proofs.laws.bounds_overtaking.Goals as goal

-- each other seat overtakes once at most
pub returns-clause-once : goal.returns-clause-once
returns-clause-once c = overtakes_once_law

-- all together at most as often as there are other seats
pub returns-clause-few : goal.returns-clause-few
returns-clause-few c = overtakes_few_law
