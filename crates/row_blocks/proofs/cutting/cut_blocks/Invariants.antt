use Rattle.std.proofs.Common.{◌≡◌, ◌+◌, ◌≤◌}
use Rattle.row_blocks.specs.Blocks.{blocks_of, count_to}
use Rattle.row_blocks.proofs.Steps.{HasStepped}
use Rattle.row_blocks.proofs.cutting.cut_blocks.Given as goal

-- whole blocks were passed, and the rows that are left to go are behind them
abbrev pub invariant-whole : goal.invariant-whole
invariant-whole g l = record {
  words : g.W.Loads.words l.words l.hand ≡ g.W.Loads.words l.words l.initial.hand;
  from : l.first ≤ l.end;
  there : l.end ≤ blocks_of l.blocks (g.W.Loads.words l.words l.initial.hand);
  left : count_to l.blocks (g.W.Loads.words l.words l.initial.hand) l.end + l.left
      ≡ count_to l.blocks (g.W.Loads.words l.words l.initial.hand) l.first + l.gone;
  stepped : HasStepped g.W.Loads l.words l.initial.hand l.hand;
  steps : g.W.Loads.steps l.words l.hand + l.first ≡ g.W.Loads.steps l.words l.initial.hand + l.end;
}

abbrev pub decreases-whole : goal.decreases-whole
decreases-whole g l = l.left
