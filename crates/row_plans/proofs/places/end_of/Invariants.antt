use Rattle.std.proofs.Common.{◌+◌, ◌-◌, ◌*◌, ◌<◌, ◌≤◌, min, drop, length}
use Rattle.space_model.specs.Areas.{kind_at}
use Rattle.space_model.specs.Sorts.{NoneOf}
use Rattle.row_plans.specs.RowLists.{rows_start, areas_from}
use Rattle.row_plans.specs.Loads.{rows_between}
use Rattle.row_plans.proofs.places.end_of.Given as goal

-- no page before the row behind is so, and that one starts behind the first page; each row that was passed took four
-- loads
abbrev pub invariant-rows : goal.invariant-rows
invariant-rows g l = record {
  loaded : g.R.Rows.loaded l.rows l.fn.hand l.hand;
  there : g.R.Rows.number l.rows l.fn.hand l.at < length (g.R.Rows.words l.rows l.fn.hand);
  none : NoneOf (kind_at (areas_from (g.R.Rows.words l.rows l.fn.hand))) l.sort l.lo
      (rows_start (drop (g.R.Rows.number l.rows l.fn.hand l.at + 1) (g.R.Rows.words l.rows l.fn.hand)));
  reach : l.lo < rows_start (drop (g.R.Rows.number l.rows l.fn.hand l.at + 1) (g.R.Rows.words l.rows l.fn.hand));
  few : g.R.Rows.steps l.rows l.hand ≤ g.R.Rows.steps l.rows l.fn.hand + 20
      + 4 * rows_between (g.R.Rows.words l.rows l.fn.hand) l.lo
      (min l.hi (rows_start (drop (g.R.Rows.number l.rows l.fn.hand l.at + 1) (g.R.Rows.words l.rows l.fn.hand))));
}

-- with each turn one row less is left
abbrev pub decreases-rows : goal.decreases-rows
decreases-rows g l = length (g.R.Rows.words l.rows l.fn.hand) - g.R.Rows.number l.rows l.fn.hand l.at
