use Rattle.std.proofs.Common.{arith}
use Rattle.trace_driver.proofs.OpeningLemmas.{spells_fit}
use Rattle.trace_driver.proofs.opening.read_map.Goals as goal

-- the addresses of a maps line are in order and below 2^64
pub map_start-requires : goal.map_start-requires
map_start-requires c = let fits = spells_fit c.args.text.now c.in-Ok.item c.in-Ok.ensures.found in omega (arith, fits.0, fits.1)
