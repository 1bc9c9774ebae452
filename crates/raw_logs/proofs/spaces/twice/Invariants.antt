use Rattle.std.proofs.Common.{◌≡◌, ◌++◌, List, length}
use Rattle.raw_logs.specs.declared.spaces.Made.{Made}
use Rattle.raw_logs.specs.Counting.{within_32_bits}
use Rattle.raw_logs.specs.Spaces.{twice}
use Rattle.raw_logs.specs.Stages.{HasNumbers}
use Rattle.raw_logs.proofs.spaces.twice.Given as goal

-- the links behind those that are left were counted
abbrev pub invariant-links : goal.invariant-links
invariant-links l = (done : List Made) × (l.made ≡ l.left ++ done) × HasNumbers l.found done × (l.count ≡ within_32_bits (twice done))

-- the links that are left
abbrev pub decreases-links : goal.decreases-links
decreases-links l = length l.left
