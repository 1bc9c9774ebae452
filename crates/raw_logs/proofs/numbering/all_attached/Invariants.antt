use Rattle.std.proofs.Common.{◌≡◌, ◌++◌, ℕ, List, length}
use Rattle.std.specs.Prelude.{◌↔◌}
use Rattle.line_parts.specs.Lines.{lines_of}
use Rattle.raw_logs.specs.Numbering.{IsAttached}
use Rattle.raw_logs.specs.Stages.{Has}
use Rattle.raw_logs.proofs.numbering.all_attached.Given as goal

-- the numbers so far are those that the lines so far say were attached
abbrev pub invariant-lines : goal.invariant-lines
invariant-lines l = (before : List (List ℕ)) × (lines_of l.whole ≡ before ++ lines_of l.rest)
    × ((pid : ℕ) → Has l.found pid ↔ IsAttached before pid)

-- each turn takes a line off the text
abbrev pub decreases-lines : goal.decreases-lines
decreases-lines l = length l.rest
