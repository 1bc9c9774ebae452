use Rattle.std.proofs.Common.{◌≡◌, ◌≢◌, ◌⊎◌, ℕ, []}
use Rattle.std.specs.Prelude.{None}
use Rattle.range_rw.specs.Contract.{AsksOnly, ClosesOthers, IsLockCall, Meets, StandsIn, pools_at}
use Rattle.range_rw.proofs.table.RangeTable.acquire.Given as goal

-- the tries so far hold what was held at the beginning, and are one call; none was made yet, or a scan that was open is
-- ended, and with a ready node another was met
abbrev pub invariant-loop : goal.invariant-loop
invariant-loop g l = record {
  held : l.seat.held ≡ l.initial.seat.held;
  call : IsLockCall l.initial.seat l.seat;
  asks : AsksOnly (record { range = l.range; mode = l.mode }) l.initial.seat.trace.asked l.seat.trace.asked;
  closes : (l.seat ≡ l.initial.seat) ⊎ ((l.seat.scan ≡ None) × ClosesOthers l.self.cut l.range l.initial.seat l.seat);
  met : (l.seat ≡ l.initial.seat) ⊎ ((own : ℕ) → StandsIn l.self.cut l.range own → (pools_at l.initial.seat own).ready ≢ []
      → Meets l.initial.seat.trace.taken l.seat.trace);
}
