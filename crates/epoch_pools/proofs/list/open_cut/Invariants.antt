use Rattle.std.proofs.Common.{◌≡◌, ◌+◌, ◌-◌, map, length, replicate, vec_capacity}
use Rattle.list_cuts.specs.Cut.{list_count}
use Rattle.lock_core.specs.Machine.{numbers_from, start_view}
use Rattle.epoch_pools.specs.Hands.{views_in, AreNewHands}
use Rattle.epoch_pools.proofs.Opening.{Waiting}
use Rattle.epoch_pools.proofs.list.open_cut.Given as goal

-- the hands so far are new ones, and the seats and views that are left are those of the numbers behind
abbrev pub invariant-all : goal.invariant-all
invariant-all g l = record {
  room : vec_capacity l.made ≡ vec_capacity l.initial.made;
  count : length l.made.items ≡ l.number;
  sum : l.number + length l.opened.items ≡ l.seats;
  views : views_in l.views.items ≡ map (start_view l.seats) (numbers_from l.number (l.seats - l.number));
  behind : l.behind.items ≡ map (λ n. replicate (l.lists - 1) (start_view l.seats n)) (numbers_from l.number (l.seats - l.number));
  new : AreNewHands l.table.shared.table_id (g.G.Guard.first l.client) (list_count l.cut) l.seats l.made.items;
  rest : Waiting g.G.Guard.first l.table.shared.table_id l.lists l.seats l.client l.number l.opened.items;
}

-- how many seats are left
abbrev pub decreases-all : goal.decreases-all
decreases-all g l = length l.opened.items
