use Rattle.std.proofs.lemmas.Result.{on_ok_weaker}
use Rattle.raw_trace.proofs.order.Ordering.end.Goals as goal

-- the call that waits was written, behind what it needs
pub returns-clause-wrote : goal.returns-clause-wrote
returns-clause-wrote c =
    rw c.in-Some.ensures.some (on_ok_weaker c.write.result (λ w. record { wrote = w.wrote; waits = w.waits }) c.write.ensures.wrote)

-- the writing ended
pub returns-clause-fault : goal.returns-clause-fault
returns-clause-fault c = rw c.in-Some.ensures.some c.write.ensures.fault
