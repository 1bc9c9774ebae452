use Rattle.std.proofs.Common.{◌≡◌, ◌≤◌, length, drop}
use Rattle.std.specs.Prelude.{None, All}
use Rattle.page_types.specs.Named.{IsNamedCall}
use Rattle.area_rows.specs.Callers.{CallerView}
use Rattle.trace_threads.specs.Workers.{HasPlayed}
use Rattle.trace_threads.proofs.playing.play_lines.Given as goal

-- whatever the caller leaves when it has played the rest, it has then played all lines
abbrev pub invariant-lines : goal.invariant-lines
invariant-lines g l = record {
  table : l.caller.seat.table ≡ l.fn.space.table;
  free : l.caller.seat.held ≡ None;
  left : length (drop l.line-index l.lines) ≤ l.caller.left;
  named : All (λ m. IsNamedCall m.call) (drop l.line-index l.lines);
  rest : (after : CallerView) → HasPlayed (drop l.line-index l.lines) l.caller after → HasPlayed l.lines l.initial.caller after;
}
