use Rattle.std.proofs.Common.{IfOk, subst}
use Rattle.list_cuts.specs.Cut.{Regions}
use Rattle.range_c.specs.Behind.{IsNewBehindIn}
use Rattle.range_c.proofs.opening.open_table.Goals as goal

-- the cut into one region has one list
pub returns-clause-opened : goal.returns-clause-opened
returns-clause-opened c = subst (λ (k : Regions). IfOk c.open_lists.result (λ b. IsNewBehindIn k c.args.seats c.args.client.now b.value))
    c.one.ensures c.open_lists.ensures.opened
