use Rattle.std.proofs.Common.{◌-◌, length}
use Rattle.range_c.proofs.Shows.{IsShowing}
use Rattle.range_c.proofs.showing.show_nodes.Given as goal

-- so many ranges are shown
abbrev pub invariant-nodes : goal.invariant-nodes
invariant-nodes l = IsShowing l.table.cut l.initial.ranges l.ranges l.found l.initial.seat l.seat

abbrev pub decreases-nodes : goal.decreases-nodes
decreases-nodes l = length l.initial.ranges - l.found
