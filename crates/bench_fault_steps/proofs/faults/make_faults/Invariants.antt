use Rattle.std.proofs.Common.{◌≡◌, ◌-◌}
use Rattle.std.specs.Prelude.{None}
use Rattle.bench_fault_steps.proofs.faults.make_faults.Given as goal

-- the caller may make its next call, and has made one at each turn that is done, while it had numbers
abbrev pub invariant-loop-turn : goal.invariant-loop-turn
invariant-loop-turn g l = record {
  table : l.caller.seat.table ≡ l.space.table;
  free : l.caller.seat.held ≡ None;
  keeps : l.caller.seat.table ≡ l.initial.caller.seat.table;
  made : l.caller.left ≡ l.initial.caller.left - l.turn;
}
