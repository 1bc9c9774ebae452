use Rattle.std.proofs.Common.{◌≡◌, ◌≤◌}
use Rattle.std.specs.Prelude.{None}
use Rattle.test_lock.proofs.repeats.hold_times.Given as goal

-- the seat is back, and as many tries at most as were made held the range
abbrev pub invariant-loop : goal.invariant-loop
invariant-loop l = record {
  table : l.seat.table ≡ l.initial.seat.table;
  number : l.seat.number ≡ l.initial.seat.number;
  held : l.seat.held ≡ None;
  most : l.held ≤ l.counter;
}
