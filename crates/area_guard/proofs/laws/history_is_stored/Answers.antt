use Rattle.area_guard.proofs.Storing.{all_stored}
use Rattle.area_guard.proofs.laws.history_is_stored.Goals as goal

-- the history of the rule is stored in the callers' lists
pub returns : goal.returns
returns c = all_stored
