use Rattle.std.proofs.Common.{◌<◌, length}
use Rattle.space_model.proofs.InBlocks.{FrontSoFar}
use Rattle.space_model.proofs.blocks.cut_front.Given as goal

-- the areas of the blocks so far end at or before the page, and a block is left
abbrev pub invariant-blocks-2 : goal.invariant-blocks-2
invariant-blocks-2 l = FrontSoFar l.fn.blocks l.left l.page l.count l.end × (0 < length l.left)

-- each turn takes a block off
abbrev pub decreases-blocks-2 : goal.decreases-blocks-2
decreases-blocks-2 l = length l.left
