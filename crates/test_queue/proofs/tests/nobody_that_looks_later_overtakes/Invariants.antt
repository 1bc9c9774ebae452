use Rattle.test_queue.specs.Players.{IsFree, IsIdle}
use Rattle.test_queue.proofs.tests.nobody_that_looks_later_overtakes.Given as goal

-- the two that try hold nothing and have announced nothing, and the one that waits holds nothing
abbrev pub invariant-loop : goal.invariant-loop
invariant-loop g l = record {
  tries : IsIdle l.table-inside.table.table l.a;
  waits : IsFree l.table-inside.table.table l.b;
  reads : IsIdle l.table-inside.table.table l.c;
}
