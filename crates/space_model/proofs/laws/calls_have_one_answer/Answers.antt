use Rattle.space_model.proofs.OneAnswer.{one_answer}
use Rattle.space_model.proofs.SomeAnswer.{some_answer}
use Rattle.space_model.proofs.laws.calls_have_one_answer.Goals as goal

-- each call has an answer on an area list
pub returns-clause-some : goal.returns-clause-some
returns-clause-some c = some_answer

-- and no second one
pub returns-clause-one : goal.returns-clause-one
returns-clause-one c = one_answer
