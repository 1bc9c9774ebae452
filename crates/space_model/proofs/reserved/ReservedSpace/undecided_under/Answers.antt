use Rattle.std.proofs.Common.{List, ◌∙◌, sym, ap, subst}
use Rattle.page_types.specs.declared.calls.Call.{Call}
use Rattle.space_model.specs.declared.areas.Area.{Area}
use Rattle.space_model.specs.Held.{FitsByState}
use Rattle.space_model.specs.Blocks.{areas_of}
use Rattle.space_model.proofs.reserved.ReservedSpace.undecided_under.Goals as goal

-- what fits the areas in blocks and the Protect fits the space and the call
pub returns-in-Protect-clause-fits : goal.returns-in-Protect-clause-fits
returns-in-Protect-clause-fits c =
    subst (λ (z : List Area × Call). FitsByState z.0 z.1 c.protect_under.result)
    (λ i. ((ap areas_of c.as_slice.ensures.value ∙ c.self.view_is) i, sym c.in-Protect.is i)) c.protect_under.ensures.fits
