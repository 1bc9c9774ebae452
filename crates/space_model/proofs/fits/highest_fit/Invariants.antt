use Rattle.std.proofs.Common.{All, length}
use Rattle.space_model.specs.Blocks.{IsBlock}
use Rattle.space_model.proofs.InPlaces.{Searched}
use Rattle.space_model.proofs.fits.highest_fit.Given as goal

-- each place ends below the blocks so far
abbrev pub invariant-blocks-2 : goal.invariant-blocks-2
invariant-blocks-2 l = Searched l.fn.blocks l.left l.window l.pages l.to × All IsBlock l.left

-- each turn takes a block off
abbrev pub decreases-blocks-2 : goal.decreases-blocks-2
decreases-blocks-2 l = length l.left
