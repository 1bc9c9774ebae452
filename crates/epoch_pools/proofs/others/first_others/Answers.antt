use Rattle.std.proofs.Common.{◌++◌, ◌∷◌, [], ◌∙◌, replicate}
use Rattle.lock_core.specs.Machine.{start_view}
use Rattle.lock_core.proofs.Opening.{map_more}
use Rattle.epoch_pools.proofs.others.first_others.Goals as goal

-- with those of one seat more they are the first views so far
pub loop-seat-preserved : goal.loop-seat-preserved
loop-seat-preserved c = (c.in_ok-push.ensures {u = tt}).items ∙ (λ i. c.loop-seat.invariant i ++ c.in_ok-of.ensures {u = tt} i ∷ [])
    ∙ map_more (λ n. replicate c.args.lists (start_view c.args.seats n)) c.loop-seat.seat
