use Rattle.std.proofs.Common.{length}
use Rattle.line_parts.specs.Lines.{lines_of}
use Rattle.trace_driver.proofs.CheckLemmas.{LogSoFar}
use Rattle.trace_driver.proofs.checking.keep_limits.Given as goal

-- the lines that were taken so far, and where the reading stands
abbrev pub invariant-lines : goal.invariant-lines
invariant-lines l = LogSoFar (lines_of l.fn.text) (lines_of l.rest) l.reading

-- each turn takes a line off the text
abbrev pub decreases-lines : goal.decreases-lines
decreases-lines l = length l.rest
