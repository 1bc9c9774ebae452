use Rattle.std.proofs.Common.{◌≡◌, ◌+◌, ◌-◌, ◌≤◌}
use Rattle.lock_core.specs.declared.views.Own.TheVariants.{Nothing}
use Rattle.marked_list.specs.Causes.{judged_in}
use Rattle.marked_list.specs.Walking.{seen_of}
use Rattle.marked_list.proofs.Following.{HasComeTo}
use Rattle.marked_list.proofs.scanning.scan_on.Given as goal

-- the cursor is at a node, and each look behind it was at a marked node and made at least one step
abbrev pub invariant-nodes : goal.invariant-nodes
invariant-nodes g l = record {
  table : l.hand.table ≡ l.initial.hand.table;
  come : HasComeTo l.initial.hand.part l.hand.part l.most;
  own : l.hand.part.core.own ≡ Nothing;
  least : l.initial.hand.part.trace.taken + seen_of l.hand.part.core.cursor ≤ l.hand.part.trace.taken + seen_of l.initial.hand.part.core.cursor;
  judged : judged_in l.hand.part.trace.looked ≡ judged_in l.initial.hand.part.trace.looked;
  counted : l.steps + l.initial.hand.part.trace.taken ≡ l.initial.steps + l.hand.part.trace.taken;
}

-- how many nodes the scan may still look at
abbrev pub decreases-nodes : goal.decreases-nodes
decreases-nodes g l = l.most - seen_of l.hand.part.core.cursor
