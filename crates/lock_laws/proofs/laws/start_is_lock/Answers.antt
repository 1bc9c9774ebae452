use Rattle.lock_laws.proofs.Starting.{start_lock}
use Rattle.lock_laws.proofs.laws.start_is_lock.Goals as goal

-- the state before any step is a lock
pub returns : goal.returns
returns c = λ seats some few. start_lock seats some few
