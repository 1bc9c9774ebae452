use Rattle.std.proofs.Common.{◌≡◌, ◌-◌, ◌≤◌, length, take, vec_capacity}
use Rattle.std.specs.Mem.Slots.{slots_items}
use Rattle.page_touch.specs.Gathering.{pages_in}
use Rattle.page_touch.proofs.closing.read_pages.Given as goal

-- the pages of the words so far
abbrev pub invariant-words : goal.invariant-words
invariant-words l = record {
  within : l.i ≤ l.room;
  short : length l.out.items ≤ l.i;
  space : l.room ≤ vec_capacity l.out;
  pages : l.out.items ≡ pages_in (take l.i (slots_items l.closed.words));
}

-- each turn reads one word more
abbrev pub decreases-words : goal.decreases-words
decreases-words l = l.room - l.i
