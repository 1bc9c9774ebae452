use Rattle.std.proofs.Common.{◌≡◌, ◌++◌, List, length}
use Rattle.raw_logs.specs.declared.spaces.Made.{Made}
use Rattle.raw_logs.specs.Stages.{HasSpaces}
use Rattle.raw_logs.proofs.spaces.all_homes.Given as goal

-- the links behind those that are left, which are earlier, were taken
abbrev pub invariant-links : goal.invariant-links
invariant-links l = (done : List Made) × (l.made ≡ l.left ++ done) × HasSpaces l.homes done

-- the links that are left
abbrev pub decreases-links : goal.decreases-links
decreases-links l = length l.left
