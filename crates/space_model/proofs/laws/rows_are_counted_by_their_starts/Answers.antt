use Rattle.space_model.proofs.Counting.{rows_start}
use Rattle.space_model.proofs.laws.rows_are_counted_by_their_starts.Goals as goal

-- the number of rows is the number of pages at which one starts
pub returns : goal.returns
returns c = rows_start
