use Rattle.std.proofs.Common.{◌≡◌, ◌+◌, false, None, ℕ}
use Rattle.range_queue.specs.Tries.{IsKept}
use Rattle.range_wait.specs.Moves.{IsRefused, Runs}
use Rattle.range_wait.specs.Seats.{both}
use Rattle.range_wait.proofs.trying.tries_awake.Given as goal

-- so far each try was refused, one fewer than the counter says, and nothing is held
abbrev pub invariant-tries : goal.invariant-tries
invariant-tries g l = record {
  events : l.event.table ≡ l.events.table;
  held : l.seat.held ≡ None;
  out : l.event.counted ≡ false;
  kept : IsKept l.initial.seat l.seat;
  refused : (n : ℕ) × (n + 1 ≡ l.counter)
      × Runs (IsRefused (record { range = l.range; mode = l.mode })) n (both l.initial.seat l.initial.event) (both l.seat l.event);
}
