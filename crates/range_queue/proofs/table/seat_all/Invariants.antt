use Rattle.std.proofs.Common.{◌≡◌, ◌++◌, length, vec_capacity}
use Rattle.range_queue.specs.Opening.{AreQuietFrom}
use Rattle.range_queue.proofs.table.seat_all.Given as goal

-- the seats so far are the lock's, and those that are left are quiet ones from the next number on
abbrev pub invariant-all : goal.invariant-all
invariant-all g l = record {
  room : vec_capacity l.made ≡ vec_capacity l.initial.made;
  counted : l.number ≡ length l.made.items;
  is : l.made.items ++ l.inner.items ≡ l.initial.inner.items;
  quiet : AreQuietFrom l.seats l.number l.inner.items;
}

-- how many are left
abbrev pub decreases-all : goal.decreases-all
decreases-all g l = length l.inner.items
