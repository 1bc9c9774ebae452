use Rattle.page_touch.proofs.Firsts.{keeps_touches}
use Rattle.page_touch.proofs.laws.keeps_first_touches.Goals as goal

-- the rule says so
pub returns : goal.returns
returns c = keeps_touches
