use Rattle.raw_trace.proofs.GoodTexts.{good_line}
use Rattle.raw_trace.proofs.laws.good_lines_stay.Goals as goal

-- a good line is half of no call, and becomes itself
pub returns : goal.returns
returns c = good_line
