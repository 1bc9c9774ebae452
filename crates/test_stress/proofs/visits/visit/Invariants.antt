use Rattle.std.proofs.Common.{◌≡◌}
use Rattle.test_stress.proofs.visits.visit.Given as goal

-- after each slot the seat is of the same table and number, and holds what it held
abbrev pub invariant-come : goal.invariant-come
invariant-come l = record {
  table : l.seat.table ≡ l.initial.seat.table;
  number : l.seat.number ≡ l.initial.seat.number;
  held : l.seat.held ≡ l.initial.seat.held;
}

-- the same on the way out
abbrev pub invariant-go : goal.invariant-go
invariant-go l = record {
  table : l.seat.table ≡ l.initial.seat.table;
  number : l.seat.number ≡ l.initial.seat.number;
  held : l.seat.held ≡ l.initial.seat.held;
}
