use Rattle.std.proofs.Common.{◌≡◌}
use Rattle.std.specs.Prelude.{None}
use Rattle.test_crews.specs.Crews.{HasCalled}
use Rattle.test_crews.proofs.work.work_turns.Given as goal

-- the caller is idle, and has made as many calls as turns are done
abbrev pub invariant-loop-turn : goal.invariant-loop-turn
invariant-loop-turn g l = record {
  table : l.caller.seat.table ≡ l.initial.caller.seat.table;
  number : l.caller.seat.number ≡ l.initial.caller.seat.number;
  held : l.caller.seat.held ≡ None;
  called : HasCalled l.turn l.initial.caller l.caller;
}
