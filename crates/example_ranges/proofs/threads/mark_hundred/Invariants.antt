use Rattle.std.proofs.Common.{◌≡◌}
use Rattle.std.specs.Prelude.{None}
use Rattle.example_ranges.proofs.threads.mark_hundred.Given as goal

-- between two marks the seat is the same one of the same table, and holds nothing
abbrev pub invariant-loop-n : goal.invariant-loop-n
invariant-loop-n g l = record { table : l.seat.table ≡ l.initial.seat.table; number : l.seat.number ≡ l.initial.seat.number; held : l.seat.held ≡ None }
