use Rattle.std.proofs.Common.{◌≡◌, ◌+◌, ◌≤◌, length, drop}
use Rattle.std.specs.Prelude.{None, All}
use Rattle.page_types.specs.Named.{IsNamedCall}
use Rattle.page_touch.specs.Touches.{TouchView}
use Rattle.area_rows.specs.Callers.{CallerView}
use Rattle.trace_threads.specs.Touching.{fault_count}
use Rattle.trace_threads.specs.Stages.{HasTouchedLines}
use Rattle.trace_threads.proofs.touching.touch_lines.Given as goal

-- whatever the caller and the seat leave when they have played the rest, they have then played all lines
abbrev pub invariant-lines : goal.invariant-lines
invariant-lines g l = record {
  caller_table : l.caller.seat.table ≡ l.fn.space.table;
  seat_table : l.seat.table ≡ l.fn.touches.table;
  free : l.caller.seat.held ≡ None;
  left : length (drop l.line-index l.lines) ≤ l.caller.left;
  named : All (λ m. IsNamedCall m.call) (drop l.line-index l.lines);
  may : fault_count (drop l.line-index l.lines) + length l.seat.touched ≤ l.seat.quota;
  rest : (after : CallerView) (s : TouchView) → HasTouchedLines (drop l.line-index l.lines) l.caller after l.seat s
      → HasTouchedLines l.lines l.initial.caller after l.initial.seat s;
}
