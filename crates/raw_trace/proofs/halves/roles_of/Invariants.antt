use Rattle.std.proofs.Common.{◌≡◌, List, length, take}
use Rattle.raw_logs.specs.Log.{Each}
use Rattle.raw_trace.specs.Places.{ReadText, IsReadText}
use Rattle.raw_trace.specs.Stages.{Finds}
use Rattle.raw_trace.proofs.halves.roles_of.Given as goal

-- the texts so far were looked at
abbrev pub invariant-lines : goal.invariant-lines
invariant-lines l = ((texts : List ReadText) × Each IsReadText (take l.place l.lines) texts × Finds l.finder texts) × (length l.finder.roles ≡ l.place)
