use Rattle.std.proofs.Common.{◌≡◌, ◌+◌, length, vec_capacity}
use Rattle.list_cuts.specs.Cut.{list_count}
use Rattle.range_rw.specs.Contract.{AreNewSeatsIn}
use Rattle.range_rw.proofs.Seating.{IsNewFrom}
use Rattle.range_rw.proofs.table.seat_all.Given as goal

-- the seats so far are new, and the hands that are left are new ones from the next number on
abbrev pub invariant-all : goal.invariant-all
invariant-all g l = record {
  room : vec_capacity l.seats ≡ vec_capacity l.initial.seats;
  count : length l.seats.items + length l.hands.items ≡ length l.initial.hands.items;
  new : AreNewSeatsIn (list_count l.list.cut) l.list.table (g.G.Guard.first l.client) l.seats.items;
  rest : IsNewFrom l.list.table (g.G.Guard.first l.client) (list_count l.list.cut) l.list.seats (length l.seats.items) l.hands.items;
}

-- how many hands are left
abbrev pub decreases-all : goal.decreases-all
decreases-all g l = length l.hands.items
