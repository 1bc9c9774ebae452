use Rattle.std.proofs.Common.{ℕ, ◌≤◌, sym, subst}
use Rattle.std.specs.Prelude.{All}
use Rattle.page_types.specs.declared.TheConstants.{LIMIT}
use Rattle.row_plans.specs.RowWords.{row_start}
use Rattle.row_blocks.proofs.RowSplices.{all_spliced}
use Rattle.test_rows.proofs.block_tests.splice_at.Goals as goal

-- no row starts above the limit, whichever stays or comes
pub returns-clause-low : goal.returns-clause-low
returns-clause-low g c =
    let P = λ (w : ℕ). row_start w ≤ LIMIT in
    subst (All P) (sym c.write.ensures.spliced) (all_spliced P _ c.args.more.now _ _ c.requires.low c.requires.low_new)
