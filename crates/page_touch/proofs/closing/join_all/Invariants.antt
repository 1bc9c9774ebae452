use Rattle.std.proofs.Common.{◌≡◌, ◌+◌, [], ◌++◌, All, flat_map, length, sum_by}
use Rattle.page_touch.specs.Touches.{seat_quota, seat_touched, seat_firsts}
use Rattle.page_touch.proofs.closing.join_all.Given as goal

-- what the one seat has so far, and what those have that are left, is all
abbrev pub invariant-all : goal.invariant-all
invariant-all l = record {
  table : l.all.table_id ≡ l.shared.table_id;
  slots : l.all.me.1 ≡ [];
  quota : l.all.me.0.quota + sum_by seat_quota l.seats.items ≡ sum_by seat_quota l.fn.seats.items;
  touched : l.all.me.0.touched ++ flat_map seat_touched l.seats.items ≡ flat_map seat_touched l.fn.seats.items;
  firsts : l.all.me.0.firsts ++ flat_map seat_firsts l.seats.items ≡ flat_map seat_firsts l.fn.seats.items;
  rest : All (λ s. s.table ≡ l.shared.table_id) l.seats.items;
}

-- each turn takes one seat away
abbrev pub decreases-all : goal.decreases-all
decreases-all l = length l.seats.items
