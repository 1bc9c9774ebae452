use Rattle.space_model.proofs.FourWays.{keeps_rows}
use Rattle.space_model.proofs.laws.simple_protects_keep_rows.Goals as goal

-- a Protect within an area is simple exactly where it keeps the rows
pub returns : goal.returns
returns c = keeps_rows
