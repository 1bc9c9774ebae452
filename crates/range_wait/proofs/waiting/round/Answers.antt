use Rattle.range_wait.proofs.Waited.{at_once, one_move}
use Rattle.range_wait.proofs.waiting.round.Goals as goal

pub returns-in-Ok-clause-gone : goal.returns-in-Ok-clause-gone
returns-in-Ok-clause-gone g c = at_once c.in-Ok.ensures.round

pub returns-in-Err-clause-gone : goal.returns-in-Err-clause-gone
returns-in-Err-clause-gone g c = one_move c.in-Err.ensures.round
