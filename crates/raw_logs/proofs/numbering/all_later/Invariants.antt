use Rattle.std.proofs.Common.{ℕ, take}
use Rattle.std.specs.Prelude.{◌↔◌}
use Rattle.line_parts.specs.Lines.{lines_of}
use Rattle.raw_logs.specs.Numbering.{IsLater}
use Rattle.raw_logs.specs.Log.{texts_of}
use Rattle.raw_logs.specs.Stages.{Has}
use Rattle.raw_logs.proofs.numbering.all_later.Given as goal

-- the numbers so far are those that messages tell, and the lines so far
abbrev pub invariant-lines : goal.invariant-lines
invariant-lines l = (pid : ℕ) → Has l.found pid ↔ IsLater (lines_of l.whole) (take l.place (texts_of l.lines)) pid
