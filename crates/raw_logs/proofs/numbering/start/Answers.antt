use Rattle.raw_logs.proofs.NumberFacts.{start_lines}
use Rattle.raw_logs.proofs.numbering.start.Goals as goal

-- the first line is the message or not
pub returns : goal.returns
returns c = start_lines _ _ c.in_ok-line.line.now c.start_of.result c.in_ok-line.ensures.line c.start_of.ensures
