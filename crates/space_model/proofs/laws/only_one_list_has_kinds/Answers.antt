use Rattle.space_model.proofs.AreaKinds.{only_one}
use Rattle.space_model.proofs.laws.only_one_list_has_kinds.Goals as goal

-- two area lists whose pages have the same kinds are one
pub returns : goal.returns
returns c = only_one
