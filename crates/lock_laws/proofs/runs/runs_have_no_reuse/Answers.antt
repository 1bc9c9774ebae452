use Rattle.lock_laws.proofs.Running.{runs_have_no_reuse_law}
use Rattle.lock_laws.proofs.runs.runs_have_no_reuse.Goals as goal

-- after any run no seat may reach a node that is ready or being filled
pub returns : goal.returns
returns c = runs_have_no_reuse_law
