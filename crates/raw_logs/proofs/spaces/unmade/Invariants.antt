use Rattle.std.proofs.Common.{◌≡◌, List, drop}
use Rattle.raw_logs.specs.declared.told.Told.{Told}
use Rattle.raw_logs.specs.Counting.{within_32_bits}
use Rattle.raw_logs.specs.Spaces.{unmade}
use Rattle.raw_logs.specs.Stages.{HasKnown}
use Rattle.raw_logs.specs.Told.{AreTold}
use Rattle.raw_logs.proofs.spaces.unmade.Given as goal

-- the lines from here on were looked at
abbrev pub invariant-lines : goal.invariant-lines
invariant-lines l = (tolds : List Told) → AreTold (drop l.place l.lines) tolds
    → HasKnown l.known l.fn.made tolds × (l.count ≡ within_32_bits (unmade l.fn.made tolds))
