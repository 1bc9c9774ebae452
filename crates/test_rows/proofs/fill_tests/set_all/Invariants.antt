use Rattle.std.proofs.Common.{◌≡◌, ◌≤◌, length}
use Rattle.std.specs.Prelude.{All}
use Rattle.page_types.specs.declared.TheConstants.{LIMIT}
use Rattle.row_plans.specs.RowWords.{row_start}
use Rattle.test_rows.proofs.fill_tests.set_all.Given as goal

-- no row starts above the limit
abbrev pub invariant-loop-k : goal.invariant-loop-k
invariant-loop-k l = record {
  long : length l.rows ≡ length l.initial.rows;
  low : All (λ w. row_start w ≤ LIMIT) l.rows;
}
