use Rattle.std.proofs.Common.{ℕ, List, take}
use Rattle.std.specs.Prelude.{Contains}
use Rattle.raw_logs.specs.Numbering.{HasBrackets}
use Rattle.raw_logs.specs.Log.{texts_of}
use Rattle.raw_logs.proofs.numbering.some_bracketed.Given as goal

-- none of the lines so far begins with a number in brackets
abbrev pub invariant-lines : goal.invariant-lines
invariant-lines l = (text : List ℕ) → Contains (take l.place (texts_of l.lines)) text → ¬ HasBrackets text
