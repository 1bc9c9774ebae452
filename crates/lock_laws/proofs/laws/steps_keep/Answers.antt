use Rattle.lock_laws.proofs.Running.{every_step_keeps}
use Rattle.lock_laws.proofs.laws.steps_keep.Goals as goal

-- a step of any kind makes a lock of a lock
pub returns : goal.returns
returns c = every_step_keeps
