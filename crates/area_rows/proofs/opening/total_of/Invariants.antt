use Rattle.std.proofs.Common.{◌≡◌, ◌-◌, ◌*◌, ◌^◌, ◌≤◌, sum, take, length}
use Rattle.area_rows.proofs.opening.total_of.Given as goal

-- the sum so far, which stays small
abbrev pub invariant-calls : goal.invariant-calls
invariant-calls l = record { within : l.i ≤ length l.calls; total : l.total ≡ sum (take l.i l.calls); small : l.total ≤ l.i * 2 ^ 32 }

-- each turn takes one caller more
abbrev pub decreases-calls : goal.decreases-calls
decreases-calls l = length l.calls - l.i
