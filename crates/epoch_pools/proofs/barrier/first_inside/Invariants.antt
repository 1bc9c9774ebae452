use Rattle.std.proofs.Common.{◌≡◌, ◌≢◌, ℕ, ◌<◌, true}
use Rattle.lock_core.specs.Views.{is_passed}
use Rattle.epoch_pools.proofs.barrier.first_inside.Given as goal

-- the other seats below this one are passed
abbrev pub invariant-seats : goal.invariant-seats
invariant-seats l = (k : ℕ) → k < l.seat → k ≢ l.number → is_passed l.view k ≡ true
