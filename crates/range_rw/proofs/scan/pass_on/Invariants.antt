use Rattle.std.proofs.Common.{◌≡◌, ℕ, ◌+◌, ◌-◌, ◌*◌, ◌≤◌}
use Rattle.std.specs.Prelude.{Some, true}
use Rattle.list_cuts.specs.Cut.{list_count}
use Rattle.range_rw.specs.declared.scan.Scanned.{Scanned}
use Rattle.range_rw.specs.Calls.{Leaves}
use Rattle.range_rw.specs.Contract.{SeatState, OpenScan}
use Rattle.range_rw.specs.Seats.{seat_state_of}
use Rattle.range_rw.specs.Scan.{IsNext, StaysInScan}
use Rattle.range_rw.proofs.scan.pass_on.Given as goal

-- each list behind the first was passed, so what the call comes to from here on is what it comes to
abbrev pub invariant-all : goal.invariant-all
invariant-all g l = record {
  later : Leaves StaysInScan l.initial.hand l.hand l.initial.steps l.steps;
  lists : (l.lists ≡ l.hand.part.pass.lists) × (l.lists ≡ list_count l.list.cut);
  gone : (n : ℕ) × (l.hand.part.pass.list ≡ l.initial.hand.part.pass.list + n)
      × (l.hand.part.trace.taken ≤ l.initial.hand.part.trace.taken + (4 + 3 * (16 * l.initial.hand.part.seats + 1)) * n);
  now : (was : OpenScan) → (seat_state_of l.initial.hand).scan ≡ Some was → (w : OpenScan) × ((seat_state_of l.hand).scan ≡ Some w)
      × ((after : SeatState _) (answer : Scanned) → IsNext (seat_state_of l.hand) after w answer → IsNext (seat_state_of l.initial.hand) after was answer);
  ended : (was : OpenScan) → (seat_state_of l.initial.hand).scan ≡ Some was → was.ended ≡ true → l.hand.part ≡ l.initial.hand.part;
  spent : (was : OpenScan) → (seat_state_of l.initial.hand).scan ≡ Some was → was.nodes ≡ was.most → l.hand.part ≡ l.initial.hand.part;
}

-- how many lists are left
abbrev pub decreases-all : goal.decreases-all
decreases-all g l = l.lists - l.hand.part.pass.list
