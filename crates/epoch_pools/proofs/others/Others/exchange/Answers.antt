use Rattle.std.proofs.Common.{ap}
use Rattle.std.specs.Global.{Box}
use Rattle.lock_core.specs.declared.views.View.{View}
use Rattle.epoch_pools.proofs.Boxes.{view_put}
use Rattle.epoch_pools.proofs.others.Others.exchange.Goals as goal

-- the view that was handed in is in the place of that list
pub returns-then-list-gt0-clause-kept : goal.returns-then-list-gt0-clause-kept
returns-then-list-gt0-clause-kept c = view_put c.self.inside.views.items c.args.list c.swap.new.x _ _ c.if-list-gt0.true c.self.view_is
    (ap (λ (b : Box View). b.value) c.swap.ensures.x_after)
