use Rattle.std.proofs.Common.{◌≡◌, false, None, ℕ}
use Rattle.range_wait.specs.Moves.{Moves}
use Rattle.range_wait.specs.Seats.{both}
use Rattle.range_wait.proofs.waiting.acquire_in.Given as goal

-- so far moves were made, and nothing is held
abbrev pub invariant-loop : goal.invariant-loop
invariant-loop g l = record {
  table : l.seat.table ≡ l.table.table;
  events : l.event.table ≡ l.events.table;
  held : l.seat.held ≡ None;
  out : l.event.counted ≡ false;
  gone : (n : ℕ) × Moves (record { range = l.range; mode = l.mode }) n (both l.initial.seat l.initial.event) (both l.seat l.event);
}
