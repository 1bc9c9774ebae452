use Rattle.std.proofs.Common.{◌<◌, ◌≤◌, length}
use Rattle.space_model.specs.Areas.{kind_at}
use Rattle.space_model.specs.Sorts.{NoneOf}
use Rattle.space_model.specs.Blocks.{areas_of}
use Rattle.space_model.proofs.InBlocks.{Passed}
use Rattle.space_model.proofs.blocks.end_of.Given as goal

-- no page so far is of the sort, and the blocks that are left have the kinds from there on
abbrev pub invariant-blocks-2 : goal.invariant-blocks-2
invariant-blocks-2 l = Passed l.fn.blocks l.left l.at × (l.lo ≤ l.at) × (l.at < l.hi) × NoneOf (kind_at (areas_of l.fn.blocks)) l.sort l.lo l.at

-- each turn takes a block off
abbrev pub decreases-blocks-2 : goal.decreases-blocks-2
decreases-blocks-2 l = length l.left
