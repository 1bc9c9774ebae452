use Rattle.raw_logs.proofs.GivenNumbers.{gives_some, gives_none}
use Rattle.raw_logs.proofs.numbering.given.Goals as goal

-- what is told is given, and nothing else
pub returns-clause-some : goal.returns-clause-some
returns-clause-some c = gives_some c.args.text.now _ _ c.told_by.result _ c.cut.ensures c.told_by.ensures c.told_number.ensures

pub returns-clause-none : goal.returns-clause-none
returns-clause-none c = gives_none c.args.text.now _ _ c.told_by.result _ c.cut.ensures c.told_by.ensures c.told_number.ensures
