use Rattle.lock_laws.proofs.Short.{paths_are_short_law}
use Rattle.lock_laws.proofs.laws.paths_are_short.Goals as goal

-- a path that ends has at most sixteen nodes for each seat
pub returns : goal.returns
returns c = paths_are_short_law
