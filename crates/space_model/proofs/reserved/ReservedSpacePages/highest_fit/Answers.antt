use Rattle.std.proofs.Common.{ℕ, ◌∙◌, MatchOption, ap, subst}
use Rattle.space_model.specs.Areas.{kind_at}
use Rattle.space_model.specs.Places.{FitsAt, IsHighestFit}
use Rattle.space_model.specs.Blocks.{areas_of}
use Rattle.space_model.proofs.reserved.ReservedSpacePages.highest_fit.Goals as goal

-- the blocks that were looked at are those of the space
pub returns-clause-fit : goal.returns-clause-fit
returns-clause-fit c =
    subst (λ A.
    MatchOption c.highest_fit.result ((start : ℕ) → ¬ FitsAt (kind_at A) c.args.window c.args.pages start)
    (IsHighestFit (kind_at A) c.args.window c.args.pages))
    (ap areas_of c.as_slice.ensures.value ∙ c.self.view_is) c.highest_fit.ensures
