use Rattle.lock_core.proofs.Safety.{may_step}
use Rattle.lock_core.proofs.ops.follow.Goals as goal

-- the view has what the function of any kind asks for
pub follow_in-requires-clause-may : goal.follow_in-requires-clause-may
follow_in-requires-clause-may c = may_step c.args.seats c.args.seat c.args.view.now c.requires.few c.requires.seat c.requires.sized
