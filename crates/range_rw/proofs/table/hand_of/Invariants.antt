use Rattle.std.proofs.Common.{◌≡◌, ℕ, ◌-◌, ◌<◌, ◌≤◌}
use Rattle.list_cuts.specs.Cut.{list_count}
use Rattle.lock_core.specs.declared.views.Own.TheVariants.{Nothing}
use Rattle.epoch_pools.specs.Beside.{shown_core}
use Rattle.epoch_pools.specs.Hands.{IsIdle, IsResting}
use Rattle.range_rw.proofs.table.hand_of.Given as goal

-- the hand is idle in each list to which it was turned so far, and has no node of its own in any
abbrev pub invariant-all : goal.invariant-all
invariant-all g l = record {
  table : l.hand.table ≡ l.initial.hand.table;
  number : l.hand.part.number ≡ l.initial.hand.part.number;
  pass : l.hand.part.pass.pass ≡ l.initial.hand.part.pass.pass;
  lists : (l.lists ≡ l.hand.part.pass.lists) × (l.lists ≡ list_count l.list.cut);
  most : l.at ≤ l.lists;
  free : (j : ℕ) → (shown_core l.hand.part j).own ≡ Nothing;
  rests : IsResting l.hand.part.core;
  idle : (j : ℕ) → j < l.at → IsIdle (shown_core l.hand.part j);
}

-- how many lists are left
abbrev pub decreases-all : goal.decreases-all
decreases-all g l = l.lists - l.at
