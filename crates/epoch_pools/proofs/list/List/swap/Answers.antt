use Rattle.std.proofs.Common.{sym}
use Rattle.epoch_pools.proofs.LockSteps.{answer_says}
use Rattle.epoch_pools.proofs.list.List.swap.Goals as goal

-- an exchange is this step
pub make_step-requires-clause-writes : goal.make_step-requires-clause-writes
make_step-requires-clause-writes g c = λ w _ _. sym (c.requires.exchange w)

-- so what it says is said of what it returned
pub returns-clause-part : goal.returns-clause-part
returns-clause-part g c = (answer_says g.G.Guard.rested c.make_step.ensures.made).0

pub returns-clause-told : goal.returns-clause-told
returns-clause-told g c = (answer_says g.G.Guard.rested c.make_step.ensures.made).1
