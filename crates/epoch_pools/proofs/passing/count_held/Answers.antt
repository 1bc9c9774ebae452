use Rattle.std.proofs.Common.{true, refl, arith}
use Rattle.epoch_pools.specs.Passing.{narrow}
use Rattle.epoch_pools.proofs.passing.count_held.Goals as goal

-- it is the look of the range that the hand's list holds, and list 0 too
pub look_from-requires-clause-may : goal.look_from-requires-clause-may
look_from-requires-clause-may g c = narrow true c.requires.may refl (λ _. c.requires.too)

-- there are several lists
pub look_from-requires-clause-there : goal.look_from-requires-clause-there
look_from-requires-clause-there g c = let several = c.requires.may.several in omega arith
