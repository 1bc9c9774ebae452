use Rattle.std.proofs.Common.{ℕ, ◌≡◌, ◌+◌, ◌-◌, ◌*◌, ◌≤◌, take, length}
use Rattle.std.specs.Prelude.{slice_index}
use Rattle.std.specs.List.{splice}
use Rattle.row_blocks.specs.Blocks.{IsLaidOut, rows_in, rank}
use Rattle.row_blocks.proofs.Lays.{IsSpot}
use Rattle.row_blocks.proofs.Steps.{HasStepped}
use Rattle.row_blocks.proofs.laying.lay_rows.Given as goal

-- so many rows are laid, and the layout stands as it stood
abbrev pub invariant-rows : goal.invariant-rows
invariant-rows g l = record {
  laid : IsLaidOut l.blocks (g.W.Loads.words l.words l.hand);
  spliced : rows_in l.blocks (g.W.Loads.words l.words l.hand)
      ≡ splice (rows_in l.blocks (g.W.Loads.words l.words l.initial.hand))
      (rank l.blocks (g.W.Loads.words l.words l.initial.hand) l.fn.from.at.block l.fn.from.at.place)
      (rank l.blocks (g.W.Loads.words l.words l.initial.hand) l.fn.from.at.block l.fn.from.at.place + l.k) (take l.k l.more);
  layout : (t : ℕ) → 128 * l.blocks ≤ t
      → slice_index (g.W.Loads.words l.words l.hand) t ≡ slice_index (g.W.Loads.words l.words l.initial.hand) t;
  spot : IsSpot l.blocks (g.W.Loads.words l.words l.initial.hand) l.spot.at.block l.spot.at.place l.spot.body.at l.spot.body.rows
      (rank l.blocks (g.W.Loads.words l.words l.initial.hand) l.fn.from.at.block l.fn.from.at.place + l.k);
  on : l.fn.from.at.block ≤ l.spot.at.block;
  high : l.k ≤ length l.more;
  stepped : HasStepped g.W.Loads l.words l.initial.hand l.hand;
  steps : g.W.Loads.steps l.words l.hand + l.fn.from.at.block ≤ g.W.Loads.steps l.words l.initial.hand + (2 * l.k + l.spot.at.block);
}

abbrev pub decreases-rows : goal.decreases-rows
decreases-rows g l = length l.more - l.k
