use Rattle.area_guard.proofs.Storing.{all_legal}
use Rattle.area_guard.proofs.laws.runs_are_legal.Goals as goal

-- each run is legal in the one-thread model
pub returns : goal.returns
returns c = all_legal
