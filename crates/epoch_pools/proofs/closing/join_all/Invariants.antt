use Rattle.std.proofs.Common.{◌≡◌, List, [], ◌++◌, length}
use Rattle.epoch_pools.specs.Hands.{HandState, AreHandsOf, AreShownAt}
use Rattle.epoch_pools.proofs.closing.join_all.Given as goal

-- the seat has what belongs to the hands so far, in their order, and the others are of the table
abbrev pub invariant-all : goal.invariant-all
invariant-all g l = record {
  table : l.all.table_id ≡ l.shared.table_id;
  slots : l.all.me.1 ≡ [];
  parts : (front : List (HandState _)) × AreShownAt l.shared.table_id l.all.me.0.parts front × (front ++ l.hands.items ≡ l.fn.hands.items);
  rest : AreHandsOf l.shared.table_id l.hands.items;
}

-- how many hands are left
abbrev pub decreases-all : goal.decreases-all
decreases-all g l = length l.hands.items
