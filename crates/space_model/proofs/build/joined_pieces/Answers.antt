use Rattle.space_model.proofs.Joining.{join_all-next}
use Rattle.space_model.proofs.build.joined_pieces.Goals as goal

-- with one piece more the list, joined with those that are left, is still the whole one
pub loop-piece-preserved : goal.loop-piece-preserved
loop-piece-preserved c =
    join_all-next _ _ _ _ _ c.loop-piece-test.true c.in_ok-join.ensures.items c.loop-piece.invariant.0 c.loop-piece.invariant.1
