use Rattle.raw_trace.proofs.OneWay.{rewriting_one}
use Rattle.raw_trace.proofs.laws.has_one_rewriting.Goals as goal

-- each text does one step
pub returns : goal.returns
returns c = rewriting_one
