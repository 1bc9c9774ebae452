use Rattle.lock_laws.proofs.Exclusion.{exclusive}
use Rattle.lock_laws.proofs.laws.lock_is_exclusive.Goals as goal

-- no two held ranges of different seats conflict
pub returns : goal.returns
returns c = λ m l. exclusive m l
