use Rattle.std.proofs.Common.{◌≡◌, ◌≤◌, drop}
use Rattle.row_plans.specs.RowLists.{rows_start}
use Rattle.row_plans.specs.Gaps.{HasNoGap}
use Rattle.test_rows.proofs.plan_tests.gap_before.Given as goal

-- the rows behind have fewer free pages
abbrev pub invariant-passed : goal.invariant-passed
invariant-passed l = record {
  high : l.k ≤ l.at;
  ends : l.end ≡ rows_start (drop l.k l.rows);
  few : HasNoGap l.rows l.k l.at l.pages;
}

-- with each turn one row less is left
abbrev pub decreases-passed : goal.decreases-passed
decreases-passed l = l.k
