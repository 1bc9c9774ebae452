use Rattle.epoch_pools.specs.Passing.{glance}
use Rattle.epoch_pools.proofs.passing.glance.Goals as goal

-- a look by which nothing comes to count may always be made
pub look_from-requires-clause-may : goal.look_from-requires-clause-may
look_from-requires-clause-may g c = glance
