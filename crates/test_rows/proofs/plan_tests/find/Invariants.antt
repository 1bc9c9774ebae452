use Rattle.std.proofs.Common.{◌<◌, ◌≤◌, ◌-◌, drop, length}
use Rattle.row_plans.specs.RowLists.{rows_start}
use Rattle.test_rows.proofs.plan_tests.find.Given as goal

-- the row starts at or before the page
abbrev pub invariant-rows : goal.invariant-rows
invariant-rows l = record {
  there : l.at < length l.rows;
  from : rows_start (drop l.at l.rows) ≤ l.page;
}

-- with each turn one row less is left
abbrev pub decreases-rows : goal.decreases-rows
decreases-rows l = length l.rows - l.at
