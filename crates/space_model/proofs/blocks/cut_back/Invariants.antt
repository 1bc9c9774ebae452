use Rattle.std.proofs.Common.{length}
use Rattle.space_model.proofs.InBlocks.{WindowSoFar}
use Rattle.space_model.proofs.blocks.cut_back.Given as goal

-- so many blocks were passed
abbrev pub invariant-blocks-2 : goal.invariant-blocks-2
invariant-blocks-2 l = WindowSoFar l.fn.blocks l.left l.count

-- each turn takes a block off
abbrev pub decreases-blocks-2 : goal.decreases-blocks-2
decreases-blocks-2 l = length l.left
