use Rattle.std.proofs.Common.{sym}
use Rattle.epoch_pools.proofs.list.List.put.Goals as goal

-- a store is this step
pub make_step-requires-clause-writes : goal.make_step-requires-clause-writes
make_step-requires-clause-writes g c = λ w _ _. sym (c.requires.store w)

-- whatever it found
pub returns-clause-made : goal.returns-clause-made
returns-clause-made g c = let m = c.make_step.ensures.made in (m.0, m.1, m.2)
