use Rattle.std.proofs.Common.{◌≡◌, ◌+◌, ◌-◌}
use Rattle.marked_list.specs.Walking.{seen_of}
use Rattle.marked_list.proofs.Following.{HasComeTo}
use Rattle.marked_list.proofs.walk_loop.walk_on.Given as goal

-- the cursor is at a node, and the own node stays
abbrev pub invariant-nodes : goal.invariant-nodes
invariant-nodes g l = record {
  table : l.hand.table ≡ l.initial.hand.table;
  come : HasComeTo l.initial.hand.part l.hand.part l.most;
  own : l.hand.part.core.own ≡ l.initial.hand.part.core.own;
  counted : l.steps + l.initial.hand.part.trace.taken ≡ l.initial.steps + l.hand.part.trace.taken;
}

-- how many nodes the walk may still look at
abbrev pub decreases-nodes : goal.decreases-nodes
decreases-nodes g l = l.most - seen_of l.hand.part.core.cursor
