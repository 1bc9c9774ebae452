use Rattle.std.proofs.Common.{◌≡◌, ◌++◌, ℕ, List, length}
use Rattle.std.specs.BTreeSet.{contains}
use Rattle.std.specs.Ordering.{nat_cmp}
use Rattle.raw_logs.specs.declared.spaces.Made.{Made}
use Rattle.raw_logs.specs.declared.told.Told.{Told}
use Rattle.raw_logs.specs.Counting.{within_32_bits}
use Rattle.raw_logs.specs.Spaces.{speaks, silent}
use Rattle.raw_logs.proofs.spaces.silent.Given as goal

-- the links behind those that are left were counted
abbrev pub invariant-links : goal.invariant-links
invariant-links l = (done : List Made) × (l.made ≡ l.left ++ done)
    × ((tolds : List Told) → ((q : ℕ) → contains nat_cmp l.speakers q ≡ speaks q tolds) → l.count ≡ within_32_bits (silent done tolds))

-- the links that are left
abbrev pub decreases-links : goal.decreases-links
decreases-links l = length l.left
