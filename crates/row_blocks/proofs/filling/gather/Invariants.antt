use Rattle.std.proofs.Common.{◌≡◌, ◌-◌, ◌≤◌, ◌++◌, vec_capacity}
use Rattle.row_blocks.specs.Blocks.{pieces, block}
use Rattle.row_blocks.proofs.filling.gather.Given as goal

-- the rows of so many blocks are there
abbrev pub invariant-next : goal.invariant-next
invariant-next l = record {
  high : l.i ≤ l.used;
  all : l.out.items ≡ l.initial.out.items ++ pieces (block l.blocks l.words) l.i;
  capacity : vec_capacity l.out ≡ vec_capacity l.initial.out;
}

abbrev pub decreases-next : goal.decreases-next
decreases-next l = l.used - l.i
