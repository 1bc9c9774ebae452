use Rattle.std.proofs.Common.{◌≡◌, ◌<◌, ◌≤◌}
use Rattle.std.specs.Prelude.{None}
use Rattle.range_rw.specs.Contract.{AsksAmong}
use Rattle.area_looks.specs.Shown.{HasLookedAt, IsReadAround}
use Rattle.area_looks.proofs.at.look_on.Given as goal

-- between two looks the caller holds nothing, and the pages to hold next have the page among them
abbrev pub invariant-loop : goal.invariant-loop
invariant-loop g l = record {
  held : l.caller.seat.held ≡ None;
  looked : HasLookedAt l.fn.caller l.caller;
  inside : (l.wide.lo ≤ l.page) × (l.page < l.wide.hi);
  asks : AsksAmong (IsReadAround l.page) l.fn.caller.seat.trace.asked l.caller.seat.trace.asked;
}
