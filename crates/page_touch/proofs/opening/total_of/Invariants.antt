use Rattle.std.proofs.Common.{◌≡◌, ◌-◌, ◌*◌, ◌^◌, ◌≤◌, sum, take, length}
use Rattle.page_touch.proofs.opening.total_of.Given as goal

-- the sum so far, which stays small
abbrev pub invariant-quotas : goal.invariant-quotas
invariant-quotas l = record { within : l.i ≤ length l.quotas; total : l.total ≡ sum (take l.i l.quotas); small : l.total ≤ l.i * 2 ^ 32 }

-- each turn takes one quota more
abbrev pub decreases-quotas : goal.decreases-quotas
decreases-quotas l = length l.quotas - l.i
