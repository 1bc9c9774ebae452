use Rattle.std.proofs.Common.{◌≡◌, ◌+◌, ◌-◌, ◌*◌, ◌<◌, ◌≤◌, length}
use Rattle.std.specs.Prelude.{All}
use Rattle.page_types.specs.declared.TheConstants.{LIMIT}
use Rattle.row_plans.specs.RowWords.{row_start}
use Rattle.row_blocks.specs.Blocks.{IsLaidOut, blocks_of, rows_of, rows_in}
use Rattle.row_blocks.specs.Gaps.{GapsTold}
use Rattle.test_rows.proofs.block_tests.fill.Given as goal

-- four rows have come so many times
abbrev pub invariant-fours : goal.invariant-fours
invariant-fours g l = record {
  laid : IsLaidOut l.blocks l.bench.words.items;
  long : length (rows_in l.blocks l.bench.words.items) ≡ l.from + 4 * l.k;
  free : blocks_of l.blocks l.bench.words.items < l.blocks;
  short : rows_of l.blocks l.bench.words.items 0 < 64;
  low : All (λ w. row_start w ≤ LIMIT) (rows_in l.blocks l.bench.words.items);
  told : GapsTold l.blocks l.bench.words.items;
  high : l.k ≤ l.times;
}

abbrev pub decreases-fours : goal.decreases-fours
decreases-fours g l = l.times - l.k
