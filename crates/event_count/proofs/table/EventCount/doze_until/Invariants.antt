use Rattle.std.proofs.Common.{◌≡◌}
use Rattle.event_count.proofs.Dozing.{HasTurned}
use Rattle.event_count.proofs.table.EventCount.doze_until.Given as goal

-- each turn so far found the number seen
abbrev pub invariant-loop : goal.invariant-loop
invariant-loop g l = record {
  table : l.seat.table ≡ l.initial.seat.table;
  counted : l.seat.counted ≡ l.initial.seat.counted;
  turned : HasTurned l.seen l.initial.seat.steps l.seat.steps;
}
