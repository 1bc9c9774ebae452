use Rattle.std.proofs.Common.{List, drop}
use Rattle.raw_logs.specs.declared.told.Told.{Told}
use Rattle.raw_logs.specs.Stages.{HasMade}
use Rattle.raw_logs.specs.Told.{AreTold}
use Rattle.raw_logs.proofs.spaces.all_made.Given as goal

-- the lines from here on were taken
abbrev pub invariant-lines : goal.invariant-lines
invariant-lines l = (tolds : List Told) × AreTold (drop l.place l.lines) tolds × HasMade l.makers l.place tolds
