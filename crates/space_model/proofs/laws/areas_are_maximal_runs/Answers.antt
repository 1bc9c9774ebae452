use Rattle.space_model.proofs.MaximalRuns.{maximal_runs}
use Rattle.space_model.proofs.laws.areas_are_maximal_runs.Goals as goal

-- the areas of an area list are exactly its maximal runs
pub returns : goal.returns
returns c = maximal_runs
