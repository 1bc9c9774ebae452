use Rattle.history_check.proofs.Fitting.{fits_tells}
use Rattle.history_check.proofs.holding.fits.Goals as goal

-- what may be held for the call
pub returns : goal.returns
returns c = let told = fits_tells _ _ _ c.args.entry.now.under c.areas-areas.ensures.in_order c.under.ensures.fits c.under.ensures.simple in
    (λ yes. told.0 (c.may_be.ensures.0 yes), λ fit. c.may_be.ensures.1 (told.1 fit))
