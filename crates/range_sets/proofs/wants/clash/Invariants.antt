use Rattle.std.proofs.Common.{length, ◌-◌, ◌≡◌, ◌<◌, ◌⊎◌, ℕ, ◌≤◌}
use Rattle.range_sets.specs.Wants.{AreClashing}
use Rattle.range_sets.proofs.wants.clash.Given as goal

-- no earlier pair conflicts: each pair that does begins behind i, or at i with a second place of j or behind
abbrev pub invariant-others : goal.invariant-others
invariant-others l = (l.i < l.j) × (l.j ≤ length l.wants) × ((k m : ℕ) → k < m → AreClashing l.wants k m → (l.i < k) ⊎ ((l.i ≡ k) × (l.j ≤ m)))

-- how many second places are left
abbrev pub decreases-others : goal.decreases-others
decreases-others l = length l.wants - l.j

-- no pair that conflicts begins before i
abbrev pub invariant-firsts : goal.invariant-firsts
invariant-firsts l = (l.i ≤ length l.wants) × ((k m : ℕ) → k < m → AreClashing l.wants k m → l.i ≤ k)

-- how many first places are left
abbrev pub decreases-firsts : goal.decreases-firsts
decreases-firsts l = length l.wants - l.i
