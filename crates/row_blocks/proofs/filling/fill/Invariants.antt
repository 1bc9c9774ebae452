use Rattle.std.proofs.Common.{◌≡◌, ◌-◌, ◌*◌, ◌<◌, ◌≤◌, length}
use Rattle.row_blocks.specs.Blocks.{blocks_of, rows_of}
use Rattle.row_blocks.proofs.Fills.{IsFilling}
use Rattle.row_blocks.proofs.filling.fill.Given as goal

-- so many blocks are laid, with so many rows, and those that are left fit in the others
abbrev pub invariant-next : goal.invariant-next
invariant-next l = record {
  filling : IsFilling l.blocks l.fn.words l.words l.rows l.i l.taken;
  used : blocks_of l.blocks l.words ≡ l.i;
  started : 0 < l.i;
  high : l.i < l.blocks;
  within : l.taken ≤ length l.rows;
  left : length l.rows - l.taken ≤ l.each * (l.blocks - 1 - l.i);
  low : rows_of l.blocks l.words 0 < 64;
}

abbrev pub decreases-next : goal.decreases-next
decreases-next l = length l.rows - l.taken
