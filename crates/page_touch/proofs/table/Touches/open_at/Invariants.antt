use Rattle.std.proofs.Common.{◌≡◌, ◌+◌, map, take, length, vec_capacity}
use Rattle.page_touch.specs.Touches.{new_seat}
use Rattle.page_touch.proofs.Beginning.{Waiting}
use Rattle.page_touch.proofs.table.Touches.open_at.Given as goal

-- the seats so far, and those that are still to be handed out
abbrev pub invariant-all : goal.invariant-all
invariant-all l = record {
  room : vec_capacity l.made ≡ vec_capacity l.initial.made;
  count : length l.made.items ≡ l.number;
  sum : l.number + length l.opened.items ≡ length l.quotas;
  made : l.made.items ≡ map (new_seat l.table.shared.table_id) (take l.number l.quotas);
  rest : Waiting l.table.shared.table_id l.quotas l.number l.opened.items;
}

-- each turn hands out one
abbrev pub decreases-all : goal.decreases-all
decreases-all l = length l.opened.items
