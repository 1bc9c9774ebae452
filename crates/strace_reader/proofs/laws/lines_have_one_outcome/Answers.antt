use Rattle.strace_reader.proofs.OneOutcome.{one_outcome}
use Rattle.strace_reader.proofs.laws.lines_have_one_outcome.Goals as goal

-- each line of a trace has one outcome at most
pub returns : goal.returns
returns c = one_outcome
