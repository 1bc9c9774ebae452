use Rattle.std.proofs.Common.{◌+◌, ◌≤◌, length}
use Rattle.line_parts.specs.Lines.{lines_of}
use Rattle.history_check.proofs.Reaching.{Reached}
use Rattle.history_check.proofs.checking.judged.Given as goal

-- the lines before are right, and no more entries are counted than there are bytes
abbrev pub invariant-log : goal.invariant-log
invariant-log l = Reached l.fn.start (lines_of l.fn.text) (lines_of l.rest) l.seen l.space × (l.seen.next + length l.rest ≤ length l.fn.text)

-- each turn takes a line off the text
abbrev pub decreases-log : goal.decreases-log
decreases-log l = length l.rest
