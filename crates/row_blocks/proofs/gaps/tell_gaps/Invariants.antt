use Rattle.std.proofs.Common.{◌≡◌, ◌+◌, ◌-◌, ◌*◌, ◌≤◌}
use Rattle.row_blocks.specs.Blocks.{IsLaidOut, blocks_of, count_to}
use Rattle.row_blocks.specs.Gaps.{GapsBut, IsSameButGaps}
use Rattle.row_blocks.proofs.Steps.{HasStepped}
use Rattle.row_blocks.proofs.gaps.tell_gaps.Given as goal

-- the gaps of the blocks before this one are told
abbrev pub invariant-touched : goal.invariant-touched
invariant-touched g l = record {
  same : IsSameButGaps l.blocks (g.W.Loads.words l.words l.fn.hand) (g.W.Loads.words l.words l.hand);
  from : l.first ≤ l.i;
  high : l.i ≤ l.end;
  but : GapsBut l.blocks (g.W.Loads.words l.words l.hand) l.i l.end;
  stepped : HasStepped g.W.Loads l.words l.fn.hand l.hand;
  steps : g.W.Loads.steps l.words l.hand + count_to l.blocks (g.W.Loads.words l.words l.fn.hand) l.first ≤ g.W.Loads.steps l.words l.fn.hand
      + (count_to l.blocks (g.W.Loads.words l.words l.fn.hand) l.i + 3 * (l.i - l.first) + 1);
}

abbrev pub decreases-touched : goal.decreases-touched
decreases-touched g l = l.end - l.i
