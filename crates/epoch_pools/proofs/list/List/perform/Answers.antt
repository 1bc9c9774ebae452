use Rattle.epoch_pools.specs.Running.{line_for}
use Rattle.epoch_pools.proofs.LockSteps.{writes_of}
use Rattle.epoch_pools.proofs.list.List.perform.Goals as goal

-- the operation makes of the word what the step's line does
pub make_step-requires-clause-writes : goal.make_step-requires-clause-writes
make_step-requires-clause-writes g c = writes_of c.args.step (line_for c.args.token.now.part c.args.step) c.args.op.act c.requires.op.1
