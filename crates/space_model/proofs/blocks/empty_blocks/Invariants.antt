use Rattle.std.proofs.Common.{◌≤◌, ◌-◌, All, length, vec_capacity}
use Rattle.space_model.specs.Blocks.{IsBlock}
use Rattle.space_model.proofs.blocks.empty_blocks.Given as goal

-- each is a block, and there is room for all
abbrev pub invariant-all : goal.invariant-all
invariant-all l = All IsBlock l.blocks.items × (length l.blocks.items ≤ l.count) × (l.count ≤ vec_capacity l.blocks)

-- each turn makes one more
abbrev pub decreases-all : goal.decreases-all
decreases-all l = l.count - length l.blocks.items
