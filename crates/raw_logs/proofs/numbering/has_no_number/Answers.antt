use Rattle.raw_logs.proofs.NumberFacts.{lengths_tell}
use Rattle.raw_logs.proofs.numbering.has_no_number.Goals as goal

-- the body's length tells
pub returns : goal.returns
returns c = lengths_tell c.args.text.now c.cut.result.0 c.cut.result.1.now c.cut.ensures
