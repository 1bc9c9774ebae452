use Rattle.space_model.proofs.Histories.{agree}
use Rattle.space_model.proofs.laws.same_calls_have_same_replies.Goals as goal

-- legal histories with the same calls have the same numbers and replies
pub returns : goal.returns
returns c = agree
