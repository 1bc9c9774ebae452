use Rattle.test_waits.specs.Seats.{IsIdle}
use Rattle.test_waits.proofs.stress.take_turns.Given as goal

-- the seat is free between two turns
abbrev pub invariant-turns : goal.invariant-turns
invariant-turns g l = record { idle : IsIdle l.table.lock.table l.table.events.table l.seat }
