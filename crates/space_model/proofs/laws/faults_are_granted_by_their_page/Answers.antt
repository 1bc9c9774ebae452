use Rattle.space_model.proofs.CertainReplies.{grants_allowed}
use Rattle.space_model.proofs.laws.faults_are_granted_by_their_page.Goals as goal

-- a fault is granted exactly where its page allows it
pub returns : goal.returns
returns c = grants_allowed
