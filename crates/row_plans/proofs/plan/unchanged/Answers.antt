use Rattle.std.proofs.Common.{refl, arith}
use Rattle.row_plans.proofs.PlanLeft.{as_they_were}
use Rattle.row_plans.proofs.plan.unchanged.Goals as goal

-- the rows are as they were, whichever hand loads them
pub returns-clause-same : goal.returns-clause-same
returns-clause-same g c = λ hand may.
    let old = c.args.old.now in let first = c.first.ensures hand may in let some = (g.R.Rows.are_rows old hand may).some in
    record {
      at = omega arith;
      counted = c.count.ensures hand may;
      same = as_they_were (g.R.Rows.number old hand) (g.R.Rows.words old hand) _ _ first refl c.clear.ensures.items;
    }
