use Rattle.area_looks.proofs.Ends.{found_on}
use Rattle.area_looks.proofs.Showing.{lock_same}
use Rattle.area_looks.proofs.at.look_once.Goals as goal

-- what the held pages show is told from before they were held
pub returns-clause-found : goal.returns-clause-found
returns-clause-found g c = found_on c.args.wide c.args.page c.look_under.result (lock_same c.acquire.ensures.call) c.look_under.ensures.found
