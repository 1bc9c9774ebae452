use Rattle.std.proofs.Common.{◌≡◌, ◌+◌, length, replicate, vec_capacity}
use Rattle.event_count.specs.Calls.{new_seat}
use Rattle.event_count.proofs.Beginning.{Waiting}
use Rattle.event_count.proofs.table.EventCount.open_words_of.Given as goal

-- the seats so far, and those that are still to be handed out
abbrev pub invariant-all : goal.invariant-all
invariant-all l = record {
  room : vec_capacity l.made ≡ vec_capacity l.initial.made;
  sum : length l.made.items + length l.opened.items ≡ l.seats;
  made : l.made.items ≡ replicate (length l.made.items) (new_seat l.table.shared.table_id);
  rest : Waiting l.table.shared.table_id l.opened.items;
}

-- each turn hands out one
abbrev pub decreases-all : goal.decreases-all
decreases-all l = length l.opened.items
