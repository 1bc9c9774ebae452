use Rattle.std.proofs.Common.{◌+◌, ◌-◌, ◌≤◌}
use Rattle.page_types.specs.declared.TheConstants.{LIMIT}
use Rattle.row_blocks.specs.Gaps.{IsLargestGap}
use Rattle.row_blocks.proofs.filling.gap_of_run.Given as goal

-- the largest gap of the rows so far
abbrev pub invariant-read : goal.invariant-read
invariant-read l = record {
  high : l.k ≤ l.count;
  largest : IsLargestGap l.rows l.from (l.from + l.k) l.gap;
  low : l.gap ≤ LIMIT;
}

abbrev pub decreases-read : goal.decreases-read
decreases-read l = l.count - l.k
