use Rattle.std.proofs.Common.{◌≡◌, ◌++◌, ◌≤◌, ◌-◌, take, drop, length, vec_capacity}
use Rattle.std.specs.List.{All}
use Rattle.view_lists.specs.Counted.{without}
use Rattle.view_lists.proofs.lists.Nodes.leave_out.Given as goal

-- the nodes before place i and, without the other list, those from i on are what is to be left
abbrev pub invariant-loop-i : goal.invariant-loop-i
invariant-loop-i l = record {
  room : 16 ≤ vec_capacity l.self-inside.items;
  within : l.i ≤ length l.self-inside.items.items;
  low : All (λ x. x ≤ l.self-inside.highest) l.self-inside.items.items;
  done : take l.i l.self-inside.items.items ++ without l.gone (drop l.i l.self-inside.items.items) ≡ without l.gone l.fn.self;
}

-- how many nodes are still to be looked at
abbrev pub decreases-loop-i : goal.decreases-loop-i
decreases-loop-i l = length l.self-inside.items.items - l.i
