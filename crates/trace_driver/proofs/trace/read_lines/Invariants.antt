use Rattle.std.proofs.Common.{◌+◌, ◌*◌, ◌≤◌, length}
use Rattle.std.specs.Prelude.{All}
use Rattle.line_parts.specs.Lines.{lines_of}
use Rattle.trace_driver.specs.TraceReader.{IsNamedLine}
use Rattle.trace_driver.proofs.TraceLemmas.{SoFar}
use Rattle.trace_driver.proofs.trace.read_lines.Given as goal

-- where the reader stands, with bounds on its counts and named calls
abbrev pub invariant-lines : goal.invariant-lines
invariant-lines l = SoFar l.fn.first (lines_of l.fn.text) l.number (lines_of l.rest) l.reader × (l.number + length l.rest ≤ l.fn.first + length l.fn.text)
    × (l.reader.skipped + 2 * l.fn.first ≤ 2 * l.number) × All IsNamedLine l.reader.lines.items × (length l.reader.lines.items ≤ 1048576)
    × (l.reader.processes.count ≤ length l.reader.lines.items) × (l.fn.first ≤ l.number)

-- each turn takes a line off the text
abbrev pub decreases-lines : goal.decreases-lines
decreases-lines l = length l.rest
