use Rattle.space_model.proofs.SealedStay.{sealed_pages_stay}
use Rattle.space_model.proofs.laws.sealed_pages_stay.Goals as goal

-- after any calls a sealed page has its kind
pub returns : goal.returns
returns c = sealed_pages_stay
