use Rattle.raw_trace.proofs.LineCalls.{calls_kept}
use Rattle.raw_trace.proofs.laws.rewriting_keeps_calls.Goals as goal

-- each line that is written is read as the call of its entry
pub returns : goal.returns
returns c = calls_kept
