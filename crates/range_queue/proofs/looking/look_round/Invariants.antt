use Rattle.std.proofs.Common.{◌≡◌, ◌≤◌, ◌-◌}
use Rattle.range_queue.specs.Looks.{IsLast, IsLooking, look_from}
use Rattle.range_queue.proofs.looking.look_round.Given as goal

-- the look has passed the seats below the next one
abbrev pub invariant-seats : goal.invariant-seats
invariant-seats g l = record {
  looking : IsLooking 0 l.initial.seat l.seat;
  look : l.seat.pass.look ≡ look_from l.seats l.asked l.k;
  low : l.k ≤ l.seats;
  last : IsLast l.seat.trace;
}

-- how many seats are left
abbrev pub decreases-seats : goal.decreases-seats
decreases-seats g l = l.seats - l.k
