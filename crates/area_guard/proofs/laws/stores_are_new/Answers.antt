use Rattle.area_guard.proofs.Storing.{all_new}
use Rattle.area_guard.proofs.laws.stores_are_new.Goals as goal

-- a caller that has a plan to write stores what differs
pub returns : goal.returns
returns c = all_new
