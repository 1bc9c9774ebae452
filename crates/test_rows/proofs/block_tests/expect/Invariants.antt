use Rattle.std.proofs.Common.{◌≡◌, ◌-◌, ◌<◌, ◌≤◌}
use Rattle.row_blocks.specs.Positions.{IsRowAt}
use Rattle.test_rows.proofs.block_tests.expect.Given as goal

-- so many rows were read, and nothing was stored
abbrev pub invariant-rows : goal.invariant-rows
invariant-rows g l = record {
  words : l.bench.words.items ≡ l.initial.bench.words.items;
  at : IsRowAt l.blocks l.initial.bench.words.items l.k l.at;
  high : l.k < l.count;
}

abbrev pub decreases-rows : goal.decreases-rows
decreases-rows g l = l.count - l.k
