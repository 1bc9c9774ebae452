use Rattle.std.proofs.Common.{◌+◌, ◌-◌, ◌*◌, ◌≤◌}
use Rattle.row_blocks.specs.Blocks.{AreBodies}
use Rattle.row_blocks.specs.Moves.{IsRotated}
use Rattle.row_blocks.proofs.Steps.{HasStepped}
use Rattle.row_blocks.proofs.removing.rotate.Given as goal

-- so many body words have moved down, and those behind stand as they stood
abbrev pub invariant-bodies : goal.invariant-bodies
invariant-bodies g l = record {
  bodies : AreBodies l.blocks (g.W.Loads.words l.words l.hand);
  rotated : IsRotated l.blocks (g.W.Loads.words l.words l.initial.hand) (g.W.Loads.words l.words l.hand) l.to l.gap l.k;
  high : l.k ≤ l.count;
  stepped : HasStepped g.W.Loads l.words l.initial.hand l.hand;
  steps : g.W.Loads.steps l.words l.hand ≤ g.W.Loads.steps l.words l.initial.hand + 4 * l.k;
}

abbrev pub decreases-bodies : goal.decreases-bodies
decreases-bodies g l = l.count - l.k
