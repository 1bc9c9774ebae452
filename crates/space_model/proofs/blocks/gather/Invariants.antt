use Rattle.std.proofs.Common.{◌≡◌, ◌≤◌, ◌++◌, length, vec_capacity}
use Rattle.space_model.specs.Blocks.{areas_of}
use Rattle.space_model.proofs.blocks.gather.Given as goal

-- with the areas of the blocks that are left the list is the whole one, for which there is room
abbrev pub invariant-blocks-2 : goal.invariant-blocks-2
invariant-blocks-2 l = (l.list.items ++ areas_of l.left ≡ areas_of l.fn.blocks) × (vec_capacity l.initial.list ≤ vec_capacity l.list)

-- each turn takes a block off
abbrev pub decreases-blocks-2 : goal.decreases-blocks-2
decreases-blocks-2 l = length l.left
