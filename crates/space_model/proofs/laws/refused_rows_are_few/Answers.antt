use Rattle.space_model.proofs.CertainReplies.{few_rows_more}
use Rattle.space_model.proofs.laws.refused_rows_are_few.Goals as goal

-- a call that is refused for its rows asks for at most so many more than there are
pub returns : goal.returns
returns c = few_rows_more
