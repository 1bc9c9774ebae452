use Rattle.std.proofs.Common.{arith}
use Rattle.space_model.proofs.InPlaces.{finds_none, finds_high, finds_short}
use Rattle.space_model.proofs.fits.fit_in.Goals as goal

-- there is no area
pub returns-in_default : goal.returns-in_default
returns-in_default c = finds_none _ _ _ c.in_default.ensures.cases

-- the first one starts at or above the page
pub returns-then-to-first : goal.returns-then-to-first
returns-then-to-first c = finds_high _ _ _ _ _ c.in-Some.ensures.cases.0 c.if-to-first.true

-- each gap is too short
pub returns-then-saturating_sub-pages : goal.returns-then-saturating_sub-pages
returns-then-saturating_sub-pages c =
    finds_short _ _ _ c.args.gap _ _ c.in-Some.ensures.cases.0 c.requires.some c.if-gap-pages.true c.requires.gaps (omega (arith, c.if-to-first.false))
    (omega (arith, c.end_of.ensures, c.max-last.ensures, c.saturating_sub.ensures, c.if-saturating_sub-pages.true))
