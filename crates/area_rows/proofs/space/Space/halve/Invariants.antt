use Rattle.std.proofs.Common.{◌≡◌, ◌+◌, ◌≤◌}
use Rattle.page_types.specs.declared.TheConstants.{LIMIT}
use Rattle.row_blocks.proofs.Finds.{HasHalved}
use Rattle.area_guard.specs.History.{IsAtRest}
use Rattle.area_rows.specs.Halving.{slots_on, IsAmong}
use Rattle.area_rows.specs.Callers.{HasSameRows, IsReading}
use Rattle.area_rows.proofs.space.Space.halve.Given as goal

-- the caller has read rows alone, the row of the page is among those that are left, and each step has halved them
abbrev pub invariant-halve : goal.invariant-halve
invariant-halve g l = record {
  reading : IsReading l.initial.caller.seat l.caller.seat;
  laid : l.caller.seat.pass.laid ≡ l.initial.caller.seat.pass.laid;
  left : l.caller.left ≡ l.initial.caller.left;
  rows : HasSameRows l.initial.caller l.caller;
  rest : IsAtRest l.caller.seat.pass;
  counted : l.steps + l.initial.caller.seat.trace.taken ≡ l.initial.steps + l.caller.seat.trace.taken;
  among : IsAmong l.caller.seat.pass.rows l.page l.count l.last (slots_on l.from) l.base l.size l.word l.end;
  limit : l.end ≤ LIMIT;
  steps : HasHalved l.initial.caller.seat.trace.taken l.caller.seat.trace.taken l.count l.size;
}

-- fewer rows are left each time
abbrev pub decreases-halve : goal.decreases-halve
decreases-halve g l = l.size
