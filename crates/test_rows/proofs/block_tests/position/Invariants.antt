use Rattle.std.proofs.Common.{◌≡◌, ◌+◌, ◌<◌}
use Rattle.row_blocks.specs.Blocks.{blocks_of, rows_of, count_to}
use Rattle.test_rows.proofs.block_tests.position.Given as goal

-- so many blocks were passed
abbrev pub invariant-passed : goal.invariant-passed
invariant-passed l = record {
  left : count_to l.blocks l.words l.i + l.left ≡ l.number;
  there : l.i < blocks_of l.blocks l.words;
  rows : l.rows ≡ rows_of l.blocks l.words l.i;
}

abbrev pub decreases-passed : goal.decreases-passed
decreases-passed l = l.left
