use Rattle.lock_core.proofs.Safety.{may_step}
use Rattle.lock_core.proofs.ops.enabled_op.Goals as goal

-- the view has what the function of any kind asks for
pub op_in-requires : goal.op_in-requires
op_in-requires c = may_step c.args.seats c.args.seat c.args.view.now c.requires.few c.requires.seat c.requires.sized
