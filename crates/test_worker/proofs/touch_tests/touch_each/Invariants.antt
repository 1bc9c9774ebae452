use Rattle.std.proofs.Common.{◌≡◌, ◌+◌, ◌-◌, ◌≤◌, length}
use Rattle.test_worker.proofs.touch_tests.touch_each.Given as goal

-- the seat has touched so many pages
abbrev pub invariant-pages : goal.invariant-pages
invariant-pages l = record {
  table : l.seat.table ≡ l.initial.seat.table;
  within : l.page ≤ length l.firsts;
  quota : l.seat.quota ≡ l.initial.seat.quota;
  touched : length l.seat.touched ≡ length l.initial.seat.touched + l.page;
}

-- each turn touches one more
abbrev pub decreases-pages : goal.decreases-pages
decreases-pages l = length l.firsts - l.page
