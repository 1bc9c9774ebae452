use Rattle.std.proofs.Common.{◌≡◌, ◌≤◌, ◌-◌, take, drop, vec_capacity, length}
use Rattle.std.specs.Mem.Slots.{slots_items}
use Rattle.epoch_pools.proofs.closing.copy_words.Given as goal

-- the words so far are copied, and the room is what it was
abbrev pub invariant-words : goal.invariant-words
invariant-words l = record {
  below : l.i ≤ l.count;
  room : vec_capacity l.out ≡ vec_capacity l.initial.out;
  count : length l.out.items ≡ l.i;
  items : l.out.items ≡ take l.i (drop l.from (slots_items l.closed.words));
}

-- how many words are left
abbrev pub decreases-words : goal.decreases-words
decreases-words l = l.count - l.i
