use Rattle.std.proofs.Common.{◌∙◌}
use Rattle.std.proofs.lemmas.List.{replicate_more}
use Rattle.lock_core.specs.Machine.{start_view}
use Rattle.epoch_pools.proofs.Boxes.{view_more}
use Rattle.epoch_pools.proofs.others.Others.of.Goals as goal

-- with one view more they are first views
pub lists-preserved : goal.lists-preserved
lists-preserved c = view_more _ _ _ _ _ (c.in_ok-push.ensures {u = tt}).items c.lists.invariant
    ((c.in_ok-new.ensures {u = tt}).ok ∙ c.in_ok-first_view.ensures {u = tt}) ∙ replicate_more c.lists.counter (start_view c.args.seats c.args.seat)
