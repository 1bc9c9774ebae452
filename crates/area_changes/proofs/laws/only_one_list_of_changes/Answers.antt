use Rattle.area_changes.proofs.OneList.{one_list}
use Rattle.area_changes.proofs.laws.only_one_list_of_changes.Goals as goal

pub returns : goal.returns
returns c = one_list
