use Rattle.std.proofs.Common.{◌≡◌, ◌*◌}
use Rattle.std.specs.Prelude.{None, false}
use Rattle.test_lock.specs.Turns.{HasMade, HasVisited}
use Rattle.test_lock.proofs.turns.visit_turns.Given as goal

-- the seat is back and outside, has made two steps and a visit for each turn, and met nobody
abbrev pub invariant-loop : goal.invariant-loop
invariant-loop g l = record {
  table : l.seat.table ≡ l.initial.seat.table;
  number : l.seat.number ≡ l.initial.seat.number;
  held : l.seat.held ≡ None;
  made : HasMade (2 * l.counter) l.initial.seat l.seat;
  outside : l.seat.pass.inside ≡ false;
  visited : HasVisited l.mode l.counter l.initial.seat l.seat;
  none : l.most ≡ 0;
}
