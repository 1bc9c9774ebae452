use Rattle.space_model.proofs.TwiceOnce.{few_rows}
use Rattle.space_model.proofs.laws.calls_add_few_rows.Goals as goal

-- a call leaves at most so many rows more than there were
pub returns : goal.returns
returns c A call w r B answer = few_rows A call r B w answer
