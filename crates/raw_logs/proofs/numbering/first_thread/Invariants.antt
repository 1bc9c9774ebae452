use Rattle.std.proofs.Common.{ℕ, List, take}
use Rattle.std.specs.Prelude.{◌↔◌, Contains}
use Rattle.raw_logs.specs.Numbering.{IsLater}
use Rattle.raw_logs.specs.Log.{texts_of}
use Rattle.raw_logs.specs.Stages.{Has, EachLater}
use Rattle.raw_logs.proofs.numbering.first_thread.Given as goal

-- each number in brackets so far came later
abbrev pub invariant-lines : goal.invariant-lines
invariant-lines l = (log all : List (List ℕ)) → ((pid : ℕ) → Has l.later pid ↔ IsLater log all pid)
    → (text : List ℕ) → Contains (take l.place (texts_of l.lines)) text → EachLater (IsLater log all) text
