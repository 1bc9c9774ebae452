use Rattle.std.proofs.Common.{◌≡◌, ◌≤◌, ◌+◌, ◌++◌, ℕ, List, length}
use Rattle.line_parts.specs.Lines.{lines_of}
use Rattle.raw_logs.specs.Stages.{Takes}
use Rattle.raw_logs.proofs.healing.heal.Given as goal

-- the lines so far make the texts so far, and what comes behind them is read on from there
abbrev pub invariant-lines : goal.invariant-lines
invariant-lines l = (before : List (List ℕ))
    × (lines_of l.whole ≡ before ++ lines_of l.rest)
    × (length before + 1 ≡ l.number)
    × (l.number + length l.rest ≤ length l.whole + 1)
    × (length l.healer.written.lines + 1 ≤ l.number)
    × Takes l.healer before
    × (l.healer.written.numbering ≡ l.fn.numbering)

-- each turn takes a line off the text
abbrev pub decreases-lines : goal.decreases-lines
decreases-lines l = length l.rest
