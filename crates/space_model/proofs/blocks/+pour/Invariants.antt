use Rattle.std.proofs.Common.{length}
use Rattle.space_model.proofs.blocks.+pour.Given as goal

-- each call has a block less
abbrev pub decreases-pour : goal.decreases-pour
decreases-pour l = length l.blocks.now
