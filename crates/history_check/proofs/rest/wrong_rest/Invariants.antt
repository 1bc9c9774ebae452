use Rattle.std.proofs.Common.{◌+◌, ◌≤◌, length}
use Rattle.line_parts.specs.Lines.{lines_of}
use Rattle.history_check.proofs.RestLines.{Leads}
use Rattle.history_check.proofs.rest.wrong_rest.Given as goal

-- what is left tells what all tell, and no more lines are counted than there are bytes
abbrev pub invariant-areas : goal.invariant-areas
invariant-areas l = Leads l.left (lines_of l.rest) l.count l.fn.areas (lines_of l.fn.text) × (l.count + length l.rest ≤ length l.fn.text)

-- each turn takes an area off the list
abbrev pub decreases-areas : goal.decreases-areas
decreases-areas l = length l.left
