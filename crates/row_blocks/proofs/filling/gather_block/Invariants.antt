use Rattle.std.proofs.Common.{◌≡◌, ◌-◌, ◌≤◌, ◌++◌, take, drop, vec_capacity}
use Rattle.row_blocks.proofs.filling.gather_block.Given as goal

-- so many rows of the body are there
abbrev pub invariant-body : goal.invariant-body
invariant-body l = record {
  high : l.k ≤ l.count;
  all : l.out.items ≡ l.initial.out.items ++ take l.k (drop l.at l.words);
  capacity : vec_capacity l.out ≡ vec_capacity l.initial.out;
}

abbrev pub decreases-body : goal.decreases-body
decreases-body l = l.count - l.k
