use Rattle.space_model.proofs.FourWays.{four_ways}
use Rattle.space_model.proofs.laws.simple_protects_are_of_four_kinds.Goals as goal

-- a Protect within an area is simple exactly in the four cases
pub returns : goal.returns
returns c = four_ways
