use Rattle.space_model.specs.History.{CallLeaves}
use Rattle.space_model.proofs.Histories.{chains_join, chains_split}
use Rattle.space_model.proofs.laws.states_follow_one_another.Goals as goal

-- the state after both lists of entries is the second one's after the first one's
pub returns : goal.returns
returns c A first more C = (chains_split CallLeaves A first more C, λ (B, s, t). chains_join CallLeaves A first more B C s t)
