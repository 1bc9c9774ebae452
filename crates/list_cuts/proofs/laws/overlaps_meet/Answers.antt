use Rattle.list_cuts.proofs.Cutting.{overlaps_meet_law}
use Rattle.list_cuts.proofs.laws.overlaps_meet.Goals as goal

-- the higher one of their lower ends is in both
pub returns : goal.returns
returns c = overlaps_meet_law
