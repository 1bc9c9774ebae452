use Rattle.area_protect.proofs.Lone.{lone_path}
use Rattle.area_protect.proofs.laws.paths_are_of_the_history.Goals as goal

-- the law that lone calls after one history go one way
pub returns : goal.returns
returns c = lone_path
