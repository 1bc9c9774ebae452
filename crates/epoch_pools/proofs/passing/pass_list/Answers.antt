use Rattle.std.proofs.Common.{◌≡◌, Bool, true, false, arith}
use Rattle.epoch_pools.specs.Passing.{wide}
use Rattle.epoch_pools.proofs.passing.pass_list.Goals as goal

-- it is the look of the range that list 0 holds
pub look_from-found-requires-clause-may : goal.look_from-found-requires-clause-may
look_from-found-requires-clause-may g c = wide c.args.up false c.requires.may (λ t. absurd (let x : ◌≡◌ {A = Bool} false true = t in cc))

-- that list is there
pub look_from-found-requires-clause-there : goal.look_from-found-requires-clause-there
look_from-found-requires-clause-there g c = let below = c.requires.may.below in let most = c.requires.may.most in omega arith
