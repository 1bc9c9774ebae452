use Rattle.lock_core.proofs.Operating.{op_planned}
use Rattle.lock_core.proofs.ops.op_of.Goals as goal

-- the operation of an enabled step is that of its line
pub returns-clause-op : goal.returns-clause-op
returns-clause-op c = op_planned c.args.seats c.args.seat c.args.view.now c.args.step c.in-Some.op c.in-Some.ensures.op
