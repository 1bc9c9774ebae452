use Rattle.area_guard.proofs.Storing.{count_stores, layout_stores}
use Rattle.area_guard.proofs.laws.count_is_of_everything.Goals as goal

-- the row count, and each other word of the layout, is stored by calls under everything alone
pub returns : goal.returns
returns c = record { count = count_stores; layout = layout_stores }
