use Rattle.std.proofs.Common.{◌≡◌, ℕ, ◌-◌, ◌<◌, length}
use mathlib.Core.Option.{some}
use lib.ListN.{get_elem?}
use Rattle.epoch_pools.specs.declared.views.Beside.{Beside}
use Rattle.epoch_pools.specs.Hands.{HandState, IsIdle}
use Rattle.test_list.proofs.opened.are_idle.Given as goal

-- the hands before the next one are idle
abbrev pub invariant-hands : goal.invariant-hands
invariant-hands l = (k : ℕ) (h : HandState (Beside (Unit {0}))) → k < l.i → get_elem? l.hands k ≡ some h → IsIdle h.part.core

-- the hands that are left grow fewer
abbrev pub decreases-hands : goal.decreases-hands
decreases-hands l = length l.hands - l.i
