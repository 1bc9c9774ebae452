use Rattle.std.proofs.Common.{length}
use Rattle.space_model.proofs.InBlocks.{Passed}
use Rattle.space_model.proofs.blocks.first_above.Given as goal

-- no area of the blocks so far ends above the page
abbrev pub invariant-blocks-2 : goal.invariant-blocks-2
invariant-blocks-2 l = Passed l.fn.blocks l.left l.page

-- each turn takes a block off
abbrev pub decreases-blocks-2 : goal.decreases-blocks-2
decreases-blocks-2 l = length l.left
