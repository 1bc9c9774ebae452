use Rattle.raw_trace.proofs.GoodTexts.{good_texts}
use Rattle.raw_trace.proofs.laws.good_texts_stay.Goals as goal

-- each text comes as it is, and nothing waits
pub returns : goal.returns
returns c = good_texts
