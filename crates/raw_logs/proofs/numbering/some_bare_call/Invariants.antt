use Rattle.std.proofs.Common.{ℕ, List, take}
use Rattle.std.specs.Prelude.{Contains}
use Rattle.raw_logs.specs.Numbering.{IsBareCall}
use Rattle.raw_logs.specs.Log.{texts_of}
use Rattle.raw_logs.proofs.numbering.some_bare_call.Given as goal

-- none of the lines so far is a call without a number
abbrev pub invariant-lines : goal.invariant-lines
invariant-lines l = (text : List ℕ) → Contains (take l.place (texts_of l.lines)) text → ¬ IsBareCall text
