use Rattle.std.proofs.Common.{◌≡◌, ◌+◌, ◌≤◌, drop}
use Rattle.row_plans.specs.RowLists.{rows_start}
use Rattle.row_plans.specs.Gaps.{HasNoGap}
use Rattle.row_blocks.specs.Blocks.{rows_in, count_to}
use Rattle.row_blocks.proofs.Steps.{HasStepped}
use Rattle.row_blocks.proofs.fits.gap_in_block.Given as goal

-- the rows behind have fewer free pages
abbrev pub invariant-rows : goal.invariant-rows
invariant-rows g l = record {
  words : g.W.Loads.words l.words l.hand ≡ g.W.Loads.words l.words l.initial.hand;
  high : l.k ≤ l.at.place;
  ends : l.end ≡ rows_start (drop (count_to l.blocks (g.W.Loads.words l.words l.initial.hand) l.at.block + l.k)
      (rows_in l.blocks (g.W.Loads.words l.words l.initial.hand)));
  few : HasNoGap (rows_in l.blocks (g.W.Loads.words l.words l.initial.hand)) (count_to l.blocks (g.W.Loads.words l.words l.initial.hand) l.at.block + l.k)
      (count_to l.blocks (g.W.Loads.words l.words l.initial.hand) l.at.block + l.at.place) l.pages;
  stepped : HasStepped g.W.Loads l.words l.initial.hand l.hand;
  steps : g.W.Loads.steps l.words l.hand + l.k ≤ g.W.Loads.steps l.words l.initial.hand + l.at.place;
}

abbrev pub decreases-rows : goal.decreases-rows
decreases-rows g l = l.k
