use Rattle.raw_trace.proofs.StepFacts.{orders_kept}
use Rattle.raw_trace.proofs.laws.rewriting_keeps_orders.Goals as goal

-- the calls of a process are those of its steps, each at its end
pub returns : goal.returns
returns c = orders_kept
