use Rattle.space_model.proofs.TwiceOnce.{protect_twice}
use Rattle.space_model.proofs.laws.protect_twice_is_once.Goals as goal

-- a Protect that was done is done again, and changes nothing then
pub returns : goal.returns
returns c = protect_twice
