use Rattle.std.proofs.Common.{◌≡◌, ◌+◌, ◌-◌, ◌<◌, ◌≤◌}
use Rattle.std.specs.Prelude.{slice_index}
use Rattle.row_plans.specs.RowWords.{row_start}
use Rattle.row_blocks.proofs.Finds.{HasHalved}
use Rattle.row_blocks.proofs.Steps.{HasStepped}
use Rattle.row_blocks.proofs.finding.halve.Given as goal

-- the lower word starts at or before the page, and the upper one behind it
abbrev pub invariant-halve : goal.invariant-halve
invariant-halve g l = record {
  ordered : l.low < l.high;
  there : l.high ≤ l.size;
  word : 0 < l.low → l.word ≡ slice_index (g.W.Loads.words l.words l.initial.hand) (l.from + l.low);
  from : 0 < l.low → row_start l.word ≤ l.page;
  end : l.page < l.behind;
  next : l.high < l.size → l.behind ≡ row_start (slice_index (g.W.Loads.words l.words l.initial.hand) (l.from + l.high));
  last : l.high ≡ l.size → l.behind ≡ l.end;
  same : g.W.Loads.words l.words l.hand ≡ g.W.Loads.words l.words l.initial.hand;
  stepped : HasStepped g.W.Loads l.words l.initial.hand l.hand;
  steps : HasHalved (g.W.Loads.steps l.words l.initial.hand) (g.W.Loads.steps l.words l.hand) l.size (l.high - l.low);
}

abbrev pub decreases-halve : goal.decreases-halve
decreases-halve g l = l.high - l.low
