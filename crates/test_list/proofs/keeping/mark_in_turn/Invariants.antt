use Rattle.std.proofs.Common.{◌≤◌, ◌<◌, length}
use Rattle.test_list.specs.Trials.{AreInOrder}
use Rattle.test_list.proofs.keeping.mark_in_turn.Given as goal

-- at most 32 nodes are left, there are two hands or more, and they are in order
abbrev pub invariant-nodes : goal.invariant-nodes
invariant-nodes l = record { below : l.left ≤ 32; two : 1 < length l.hands; order : AreInOrder l.list.table l.hands }

-- the nodes that are left grow fewer
abbrev pub decreases-nodes : goal.decreases-nodes
decreases-nodes l = l.left
