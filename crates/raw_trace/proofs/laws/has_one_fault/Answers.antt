use Rattle.raw_trace.proofs.OneFault.{fault_one}
use Rattle.raw_trace.proofs.laws.has_one_fault.Goals as goal

-- the first line that may not be written is the cause
pub returns : goal.returns
returns c = fault_one
