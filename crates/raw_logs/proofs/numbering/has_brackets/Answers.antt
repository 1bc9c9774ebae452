use Rattle.raw_logs.proofs.Decided.{decides_false}
use Rattle.raw_logs.proofs.numbering.has_brackets.Goals as goal

-- there is none
pub returns-in-None : goal.returns-in-None
returns-in-None c = decides_false c.in-None.ensures
