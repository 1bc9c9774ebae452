use Rattle.std.proofs.Common.{◌≡◌, replicate}
use Rattle.lock_core.specs.Machine.{start_view}
use Rattle.epoch_pools.specs.Hands.{views_in}
use Rattle.epoch_pools.proofs.others.Others.of.Given as goal

-- the views so far are first ones
abbrev pub invariant-lists : goal.invariant-lists
invariant-lists l = views_in l.views.items ≡ replicate l.counter (start_view l.seats l.seat)
