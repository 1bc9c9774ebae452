use Rattle.space_model.proofs.TwiceOnce.{unmap_twice}
use Rattle.space_model.proofs.laws.unmap_twice_is_once.Goals as goal

-- an Unmap that was done is done again, and changes nothing then
pub returns : goal.returns
returns c = unmap_twice
