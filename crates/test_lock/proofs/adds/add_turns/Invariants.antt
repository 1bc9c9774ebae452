use Rattle.std.proofs.Common.{◌≡◌, ◌*◌}
use Rattle.std.specs.Prelude.{None}
use Rattle.test_lock.specs.Turns.{HasAdded, HasMade}
use Rattle.test_lock.proofs.adds.add_turns.Given as goal

-- the seat is back, has made three steps for each turn, and has added as often
abbrev pub invariant-loop : goal.invariant-loop
invariant-loop g l = record {
  table : l.seat.table ≡ l.initial.seat.table;
  number : l.seat.number ≡ l.initial.seat.number;
  held : l.seat.held ≡ None;
  made : HasMade (3 * l.counter) l.initial.seat l.seat;
  added : HasAdded l.counter l.initial.seat l.seat;
}
