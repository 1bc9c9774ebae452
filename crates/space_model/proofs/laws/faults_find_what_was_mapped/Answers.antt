use Rattle.space_model.proofs.CertainReplies.{finds_mapped}
use Rattle.space_model.proofs.laws.faults_find_what_was_mapped.Goals as goal

-- a fault on a page that a Map has just placed finds the kind that the Map gave
pub returns : goal.returns
returns c = finds_mapped
