use Rattle.std.proofs.Common.{◌∙◌}
use Rattle.lock_core.specs.Machine.{start_view}
use Rattle.lock_core.proofs.Opening.{map_more}
use Rattle.epoch_pools.proofs.Boxes.{view_more}
use Rattle.epoch_pools.proofs.list.first_views.Goals as goal

-- with one view more they are the first views so far
pub loop-seat-preserved : goal.loop-seat-preserved
loop-seat-preserved c = view_more _ _ _ _ _ (c.in_ok-push.ensures {u = tt}).items c.loop-seat.invariant
    ((c.in_ok-new.ensures {u = tt}).ok ∙ c.in_ok-first_view.ensures {u = tt}) ∙ map_more (start_view c.args.seats) c.loop-seat.seat
