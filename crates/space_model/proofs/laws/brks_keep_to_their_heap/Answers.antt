use Rattle.space_model.proofs.HeapEnds.{keeps_outside}
use Rattle.space_model.proofs.laws.brks_keep_to_their_heap.Goals as goal

-- a page outside of the heap keeps its kind
pub returns : goal.returns
returns c = keeps_outside
