use Rattle.std.proofs.Common.{ap}
use Rattle.std.proofs.lemmas.Result.{IfOk-weaker}
use Rattle.list_cuts.specs.Cut.{list_count}
use Rattle.test_list.proofs.opened.open_list.Goals as goal

-- the table has one list
pub returns-clause-one : goal.returns-clause-one
returns-clause-one c = IfOk-weaker c.open.result _ _ (λ r is. ap list_count is) c.open.ensures.one
