use Rattle.test_queue.specs.Players.{IsIdle}
use Rattle.test_queue.proofs.stress.take_turns.Given as goal

-- the seat is free between two turns
abbrev pub invariant-turns : goal.invariant-turns
invariant-turns l = record { idle : IsIdle l.table.table l.seat }
