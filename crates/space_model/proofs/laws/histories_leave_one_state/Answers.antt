use Rattle.space_model.proofs.Histories.{area_state, one_state, legal_state}
use Rattle.space_model.proofs.laws.histories_leave_one_state.Goals as goal

-- the calls of each list of entries leave an area list
pub returns-clause-every : goal.returns-clause-every
returns-clause-every c = area_state

-- they leave one list at most
pub returns-clause-one : goal.returns-clause-one
returns-clause-one c = one_state

-- a legal history leaves a list
pub returns-clause-some : goal.returns-clause-some
returns-clause-some c = legal_state
