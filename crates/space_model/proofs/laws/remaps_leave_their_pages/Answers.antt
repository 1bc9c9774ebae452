use Rattle.space_model.proofs.Remapped.{remapped}
use Rattle.space_model.proofs.laws.remaps_leave_their_pages.Goals as goal

-- a Remap that was done leaves its pages in the place alone
pub returns : goal.returns
returns c = remapped
