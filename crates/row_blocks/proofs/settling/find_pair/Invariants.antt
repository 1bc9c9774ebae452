use Rattle.std.proofs.Common.{ℕ, ◌≡◌, ◌+◌, ◌-◌, ◌<◌}
use Rattle.row_blocks.specs.Blocks.{rows_of}
use Rattle.row_blocks.proofs.Steps.{HasStepped}
use Rattle.row_blocks.proofs.settling.find_pair.Given as goal

-- each two blocks that were looked at have too many rows together
abbrev pub invariant-pairs : goal.invariant-pairs
invariant-pairs g l = record {
  words : g.W.Loads.words l.words l.hand ≡ g.W.Loads.words l.words l.fn.hand;
  some : 0 < l.k;
  there : l.k < l.blocks;
  here : l.rows ≡ rows_of l.blocks (g.W.Loads.words l.words l.fn.hand) l.k;
  full : (k : ℕ) → 0 < k → k < l.k
      → 127 < rows_of l.blocks (g.W.Loads.words l.words l.fn.hand) k + 1 + rows_of l.blocks (g.W.Loads.words l.words l.fn.hand) (k + 1);
  stepped : HasStepped g.W.Loads l.words l.fn.hand l.hand;
  steps : g.W.Loads.steps l.words l.hand ≡ g.W.Loads.steps l.words l.fn.hand + l.k;
}

abbrev pub decreases-pairs : goal.decreases-pairs
decreases-pairs g l = l.blocks - l.k
