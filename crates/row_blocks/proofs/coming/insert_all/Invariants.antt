use Rattle.std.proofs.Common.{ℕ, ◌≡◌, ◌≢◌, ◌+◌, ◌-◌, ◌*◌, ◌<◌, ◌≤◌, All, take, length}
use Rattle.std.specs.List.{splice}
use Rattle.row_blocks.specs.Blocks.{IsLaidOut, blocks_of, rows_of, rows_in, rank, told}
use Rattle.row_blocks.proofs.Steps.{HasStepped}
use Rattle.row_blocks.proofs.coming.insert_all.Given as goal

-- so many rows have come
abbrev pub invariant-rows : goal.invariant-rows
invariant-rows g l = record {
  laid : IsLaidOut l.blocks (g.W.Loads.words l.words l.hand);
  spliced : rows_in l.blocks (g.W.Loads.words l.words l.hand)
      ≡ splice (rows_in l.blocks (g.W.Loads.words l.words l.initial.hand))
      (rank l.blocks (g.W.Loads.words l.words l.initial.hand) l.at.block l.at.place)
      (rank l.blocks (g.W.Loads.words l.words l.initial.hand) l.at.block l.at.place) (take l.k l.more);
  count : blocks_of l.blocks (g.W.Loads.words l.words l.hand) ≡ blocks_of l.blocks (g.W.Loads.words l.words l.initial.hand);
  grown : rows_of l.blocks (g.W.Loads.words l.words l.hand) l.at.block
      ≡ rows_of l.blocks (g.W.Loads.words l.words l.initial.hand) l.at.block + l.k;
  others : (i : ℕ) → i < l.blocks → i ≢ l.at.block
      → told l.blocks (g.W.Loads.words l.words l.hand) i ≡ told l.blocks (g.W.Loads.words l.words l.initial.hand) i;
  all : All (g.W.Loads.is_row l.words l.hand) (rows_in l.blocks (g.W.Loads.words l.words l.hand));
  high : l.k ≤ length l.more;
  stepped : HasStepped g.W.Loads l.words l.initial.hand l.hand;
  steps : g.W.Loads.steps l.words l.hand ≤ g.W.Loads.steps l.words l.initial.hand + 260 * l.k;
}

abbrev pub decreases-rows : goal.decreases-rows
decreases-rows g l = length l.more - l.k
