use Rattle.std.proofs.Common.{◌+◌, ◌<◌, ◌≤◌, length}
use Rattle.space_model.specs.Areas.{HasNamedKinds}
use Rattle.line_parts.specs.Lines.{lines_of}
use Rattle.trace_driver.proofs.OpeningLemmas.{MapsSoFar}
use Rattle.trace_driver.proofs.opening.read_opening.Given as goal

-- what was read so far, with bounds on its counts and with named kinds
abbrev pub invariant-maps : goal.invariant-maps
invariant-maps l = MapsSoFar (lines_of l.fn.text) l.opening.next l.end (lines_of l.rest) l.opening.areas.items l.opening.past
    × (l.opening.next + length l.rest ≤ 1 + length l.fn.text) × (l.opening.past < l.opening.next) × (length l.opening.areas.items < l.opening.next)
    × HasNamedKinds l.opening.areas.items

-- each turn takes a line off the text
abbrev pub decreases-maps : goal.decreases-maps
decreases-maps l = length l.rest
