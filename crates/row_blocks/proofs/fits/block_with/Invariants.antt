use Rattle.std.proofs.Common.{ℕ, ◌≡◌, ◌+◌, ◌<◌, ◌≤◌}
use Rattle.row_blocks.specs.Gaps.{gap_of}
use Rattle.row_blocks.proofs.Steps.{HasStepped}
use Rattle.row_blocks.proofs.fits.block_with.Given as goal

-- the blocks behind tell smaller gaps
abbrev pub invariant-passed : goal.invariant-passed
invariant-passed g l = record {
  words : g.W.Loads.words l.words l.hand ≡ g.W.Loads.words l.words l.initial.hand;
  high : l.j ≤ l.i;
  few : (k : ℕ) → l.j ≤ k → k < l.i → gap_of l.blocks (g.W.Loads.words l.words l.initial.hand) k < l.pages;
  stepped : HasStepped g.W.Loads l.words l.initial.hand l.hand;
  steps : g.W.Loads.steps l.words l.hand + l.j ≤ g.W.Loads.steps l.words l.initial.hand + l.i;
}

abbrev pub decreases-passed : goal.decreases-passed
decreases-passed g l = l.j
