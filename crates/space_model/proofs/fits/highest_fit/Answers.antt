-- The first block from above with a gap that is long enough has the highest place.
use Rattle.std.proofs.Common.{All, sym, subst, arith}
use Rattle.space_model.specs.declared.fits.Fit.TheVariants.{Fits, Below}
use Rattle.space_model.specs.Blocks.{areas_of, FindsFit, GapsWithin, IsBlock}
use Rattle.space_model.proofs.Highest.{highest_below, no_fit}
use Rattle.space_model.proofs.InBlocks.{blocks_front}
use Rattle.space_model.proofs.InPlaces.{searched_none, searched_all, searched_next, found_there}
use Rattle.space_model.proofs.fits.highest_fit.Goals as goal

-- at the start each place ends at or below the window's end
pub blocks-2-init : goal.blocks-2-init
blocks-2-init c = (searched_none _ _ _ c.requires.window, c.requires.blocks)

-- a block knows its longest gap
pub fit_in-requires-clause-gaps : goal.fit_in-requires-clause-gaps
fit_in-requires-clause-gaps c =
    subst (GapsWithin c.in-Some.block.now.gap) (sym c.as_slice.ensures.value)
    (blocks_front _ _ (subst (All IsBlock) c.in-Some.ensures.cases.0 c.blocks-2.invariant.1)).1.gaps

-- a place that is found there is the highest of all
pub returns-in-Fits : goal.returns-in-Fits
returns-in-Fits c =
    found_there _ _ _ _ _ _ _ c.requires.in_order c.blocks-2.invariant.0 c.in-Some.ensures.cases.0 c.in-Fits.start
    (subst (λ X. FindsFit X c.args.pages c.blocks-2.to (Fits c.in-Fits.start)) c.as_slice.ensures.value c.in-Fits.ensures)

-- where none is, the block is passed
pub blocks-2-preserved : goal.blocks-2-preserved
blocks-2-preserved c = (
  searched_next _ _ _ _ _ _ _ c.requires.in_order c.blocks-2.invariant.0 c.in-Some.ensures.cases.0 c.in-Below.at
      (subst (λ X. FindsFit X c.args.pages c.blocks-2.to (Below c.in-Below.at)) c.as_slice.ensures.value c.in-Below.ensures),
  (blocks_front _ _ (subst (All IsBlock) c.in-Some.ensures.cases.0 c.blocks-2.invariant.1)).0,
)

-- below all areas there is room
pub returns-then-pages-saturating_sub : goal.returns-then-pages-saturating_sub
returns-then-pages-saturating_sub c =
    highest_below (areas_of c.args.blocks.now) c.args.window c.args.pages c.blocks-2.to c.requires.in_order
    (searched_all _ _ _ _ _ c.in_default.ensures.cases c.blocks-2.invariant.0)
    (omega (arith, c.saturating_sub.ensures, c.if-pages-saturating_sub.true, c.requires.some))

-- or nowhere
pub returns-else-pages-saturating_sub : goal.returns-else-pages-saturating_sub
returns-else-pages-saturating_sub c =
    no_fit (areas_of c.args.blocks.now) c.args.window c.args.pages c.blocks-2.to
    (searched_all _ _ _ _ _ c.in_default.ensures.cases c.blocks-2.invariant.0)
    (omega (arith, c.saturating_sub.ensures, c.if-pages-saturating_sub.false))
