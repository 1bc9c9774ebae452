use Rattle.std.proofs.Common.{◌+◌, ◌-◌, ◌*◌, ◌≤◌}
use Rattle.row_blocks.specs.Moves.{IsCopied}
use Rattle.row_blocks.proofs.Steps.{HasStepped}
use Rattle.row_blocks.proofs.moves.copy.Given as goal

-- so many rows are laid at their other places
abbrev pub invariant-rows : goal.invariant-rows
invariant-rows g l = record {
  copied : IsCopied (g.W.Loads.words l.words l.initial.hand) (g.W.Loads.words l.words l.hand) l.from l.to l.k;
  high : l.k ≤ l.count;
  stepped : HasStepped g.W.Loads l.words l.initial.hand l.hand;
  steps : g.W.Loads.steps l.words l.hand ≤ g.W.Loads.steps l.words l.initial.hand + 3 * l.k;
}

abbrev pub decreases-rows : goal.decreases-rows
decreases-rows g l = l.count - l.k
