use Rattle.std.proofs.Common.{◌≡◌, ◌+◌, ◌++◌, length, vec_capacity}
use Rattle.range_wait.specs.Seats.{AreOut, AreSilent, seats_of}
use Rattle.range_wait.proofs.opening.seat_all.Given as goal

-- the seats so far are the first ones, and as many are left of the one kind as of the other
abbrev pub invariant-all : goal.invariant-all
invariant-all g l = record {
  room : vec_capacity l.made ≡ vec_capacity l.initial.made;
  counted : length l.made.items + length l.seats.items ≡ length l.initial.seats.items;
  even : length l.events.items ≡ length l.seats.items;
  is : l.made.items ++ seats_of l.seats.items l.events.items ≡ seats_of l.initial.seats.items l.initial.events.items;
  silent : AreSilent l.seats.items;
  out : AreOut l.events.items;
}

-- how many are left
abbrev pub decreases-all : goal.decreases-all
decreases-all g l = length l.seats.items
