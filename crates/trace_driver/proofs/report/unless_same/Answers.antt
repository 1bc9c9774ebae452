use Rattle.trace_driver.proofs.Differences.{agrees, apart, none_apart}
use Rattle.trace_driver.proofs.report.unless_same.Goals as goal

-- where the reply differs from what was recorded, that is given
pub returns-then-differs-clause-some : goal.returns-then-differs-clause-some
returns-then-differs-clause-some c = apart _ _ (c.differs.ensures.0 c.if-differs.true)

-- and where nothing was recorded it doesn't differ
pub returns-then-differs-clause-none : goal.returns-then-differs-clause-none
returns-then-differs-clause-none c = none_apart _ _

-- where it doesn't differ nothing is given
pub returns-else-differs-clause-none : goal.returns-else-differs-clause-none
returns-else-differs-clause-none c _ = agrees _ _ c.if-differs.false c.differs.ensures.1
