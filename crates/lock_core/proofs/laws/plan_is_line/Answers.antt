use Rattle.lock_core.proofs.Table.{line_of_plan, plan_of_line}
use Rattle.lock_core.proofs.laws.plan_is_line.Goals as goal

-- a plan is a line of the table, and each line is the plan
pub returns : goal.returns
returns c = λ seats s v step p. (line_of_plan seats s v step p, plan_of_line seats s v step p)
