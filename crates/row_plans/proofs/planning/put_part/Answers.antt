use Rattle.std.proofs.Common.{rules}
use Rattle.row_plans.proofs.PutRows.{no_part}
use Rattle.row_plans.proofs.planning.put_part.Goals as goal

-- where there are no pages, the rows show what they showed
pub returns-else-from-to-clause-shows : goal.returns-else-from-to-clause-shows
returns-else-from-to-clause-shows c = λ first kinds le all show. no_part first c.args.rows.now.items c.args.from c.args.to kinds le (search rules) show
