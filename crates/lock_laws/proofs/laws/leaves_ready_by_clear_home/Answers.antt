use Rattle.lock_laws.proofs.Leaving.{leaves}
use Rattle.lock_laws.proofs.laws.leaves_ready_by_clear_home.Goals as goal

-- a node leaves a seat's ready ones only by that seat's ClearHome of it
pub returns : goal.returns
returns c = λ m next s i x step v u. leaves m next s i x step v u
