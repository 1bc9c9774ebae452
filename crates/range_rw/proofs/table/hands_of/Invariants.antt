use Rattle.std.proofs.Common.{◌≡◌, ◌+◌, ◌++◌, map, length, vec_capacity}
use Rattle.list_cuts.specs.Cut.{list_count}
use Rattle.epoch_pools.specs.Hands.{AreIdleHands, AreOthersIdle, pass_in as hand_pass}
use Rattle.range_rw.specs.Contract.{pass_in}
use Rattle.range_rw.proofs.Seating.{IsIdleFrom}
use Rattle.range_rw.proofs.table.hands_of.Given as goal

-- the hands so far are idle, the seats that are left too, and together they have all passes
abbrev pub invariant-all : goal.invariant-all
invariant-all g l = record {
  room : vec_capacity l.hands ≡ vec_capacity l.initial.hands;
  count : length l.hands.items + length l.seats.items ≡ length l.initial.seats.items;
  idle : AreIdleHands l.list.table l.hands.items;
  others : AreOthersIdle (list_count l.list.cut) l.hands.items;
  rest : IsIdleFrom l.list.table (length l.hands.items) l.seats.items;
  passes : map hand_pass l.hands.items ++ map pass_in l.seats.items ≡ map pass_in l.initial.seats.items;
}

-- how many seats are left
abbrev pub decreases-all : goal.decreases-all
decreases-all g l = length l.seats.items

-- the ledger of the steps is that of the blank
abbrev pub ghosts-hand_of : goal.ghosts-hand_of
ghosts-hand_of g a = record { name = a.blank.name; parts = a.blank.parts }
