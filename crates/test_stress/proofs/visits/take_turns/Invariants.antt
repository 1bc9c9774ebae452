use Rattle.std.proofs.Common.{◌≡◌}
use Rattle.std.specs.Prelude.{None}
use Rattle.test_stress.proofs.visits.take_turns.Given as goal

-- after each turn the seat is of the same table and number, and holds nothing
abbrev pub invariant-turns : goal.invariant-turns
invariant-turns g l = record { table : l.seat.table ≡ l.initial.seat.table; number : l.seat.number ≡ l.initial.seat.number; held : l.seat.held ≡ None }
