use Rattle.space_model.proofs.Histories.{beginnings}
use Rattle.space_model.proofs.laws.beginnings_are_legal.Goals as goal

-- each beginning of a legal history is legal
pub returns : goal.returns
returns c = beginnings
