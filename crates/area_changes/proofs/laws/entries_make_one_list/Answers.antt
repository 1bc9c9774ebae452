use Rattle.area_changes.proofs.OneList.{make_one}
use Rattle.area_changes.proofs.laws.entries_make_one_list.Goals as goal

pub returns : goal.returns
returns c = make_one
