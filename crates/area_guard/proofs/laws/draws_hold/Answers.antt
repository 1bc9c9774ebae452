use Rattle.area_guard.proofs.Storing.{all_hold, draw_kept, all_counted}
use Rattle.area_guard.proofs.laws.draws_hold.Goals as goal

-- each draw is made under what its entry names, and no other step changes what was held at it, but all are counted
pub returns : goal.returns
returns c = record { drawn = all_hold; kept = draw_kept; counted = all_counted }
