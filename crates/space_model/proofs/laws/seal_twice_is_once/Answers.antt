use Rattle.space_model.proofs.TwiceOnce.{seal_twice}
use Rattle.space_model.proofs.laws.seal_twice_is_once.Goals as goal

-- a Seal that was done is done again, and changes nothing then
pub returns : goal.returns
returns c = seal_twice
