use Rattle.test_queue.specs.Players.{IsFree}
use Rattle.test_queue.proofs.stress.try_some.Given as goal

-- no try so far holds the range
abbrev pub invariant-tries : goal.invariant-tries
invariant-tries l = record { free : IsFree l.table.table l.seat }
