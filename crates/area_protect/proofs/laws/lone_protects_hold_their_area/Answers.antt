use Rattle.area_protect.proofs.Lone.{lone_holds_area}
use Rattle.area_protect.proofs.laws.lone_protects_hold_their_area.Goals as goal

-- the law of lone calls and their areas
pub returns : goal.returns
returns c = lone_holds_area
