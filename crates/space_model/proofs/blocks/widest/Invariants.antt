use Rattle.std.proofs.Common.{ℕ, ◌≤◌, length}
use Rattle.space_model.specs.Blocks.{GapsWithin}
use Rattle.space_model.proofs.blocks.widest.Given as goal

-- where no gap between the areas that are left is longer, none is
abbrev pub invariant-areas : goal.invariant-areas
invariant-areas l = (g : ℕ) → l.gap ≤ g → GapsWithin g l.left → GapsWithin g l.fn.areas

-- each turn takes an area off
abbrev pub decreases-areas : goal.decreases-areas
decreases-areas l = length l.left
