use Rattle.std.proofs.Common.{◌≡◌, Bool, true, false, refl, arith}
use Rattle.epoch_pools.specs.Passing.{narrow}
use Rattle.epoch_pools.proofs.passing.count_narrow.Goals as goal

-- it is the look of the range that the hand's list holds
pub look_from-found-requires-clause-may : goal.look_from-found-requires-clause-may
look_from-found-requires-clause-may g c = narrow false c.requires.may refl (λ t. absurd (let x : ◌≡◌ {A = Bool} false true = t in cc))

-- there are several lists
pub look_from-found-requires-clause-there : goal.look_from-found-requires-clause-there
look_from-found-requires-clause-there g c = let several = c.requires.may.several in omega arith
