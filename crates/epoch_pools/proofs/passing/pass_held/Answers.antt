use Rattle.std.proofs.Common.{true, arith}
use Rattle.epoch_pools.specs.Passing.{wide}
use Rattle.epoch_pools.proofs.passing.pass_held.Goals as goal

-- it is the look of the range that list 0 holds, and that list too
pub look_from-requires-clause-may : goal.look_from-requires-clause-may
look_from-requires-clause-may g c = wide c.args.up true c.requires.may (λ _. c.requires.too)

-- that list is there
pub look_from-requires-clause-there : goal.look_from-requires-clause-there
look_from-requires-clause-there g c = let below = c.requires.may.below in let most = c.requires.may.most in omega arith
