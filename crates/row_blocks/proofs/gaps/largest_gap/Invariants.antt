use Rattle.std.proofs.Common.{◌≡◌, ◌+◌, ◌-◌, ◌≤◌}
use Rattle.std.specs.Prelude.{slice_index}
use Rattle.page_types.specs.declared.TheConstants.{LIMIT}
use Rattle.row_blocks.specs.Blocks.{rows_in, count_to}
use Rattle.row_blocks.specs.Gaps.{IsLargestGap}
use Rattle.row_blocks.proofs.Steps.{HasStepped}
use Rattle.row_blocks.proofs.gaps.largest_gap.Given as goal

-- the largest gap of the rows whose end was read
abbrev pub invariant-rows : goal.invariant-rows
invariant-rows g l = record {
  words : g.W.Loads.words l.words l.hand ≡ g.W.Loads.words l.words l.fn.hand;
  high : l.k ≤ l.count;
  here : l.word ≡ slice_index (rows_in l.blocks (g.W.Loads.words l.words l.fn.hand)) (count_to l.blocks (g.W.Loads.words l.words l.fn.hand) l.i + l.k);
  largest : IsLargestGap (rows_in l.blocks (g.W.Loads.words l.words l.fn.hand)) (count_to l.blocks (g.W.Loads.words l.words l.fn.hand) l.i)
      (count_to l.blocks (g.W.Loads.words l.words l.fn.hand) l.i + l.k) l.gap;
  low : l.gap ≤ LIMIT;
  stepped : HasStepped g.W.Loads l.words l.fn.hand l.hand;
  steps : g.W.Loads.steps l.words l.hand ≤ g.W.Loads.steps l.words l.fn.hand + (1 + l.k);
}

abbrev pub decreases-rows : goal.decreases-rows
decreases-rows g l = l.count - l.k
