use Rattle.test_list.proofs.Hands.{table_at, order_set}
use Rattle.test_list.proofs.rows.is_move_by.Goals as goal

-- the hand at the place is of the list
pub is_move-requires : goal.is_move-requires
is_move-requires c = record {
  table = table_at c.args.list.now.table c.args.hands.now c.args.number c.index-hands-number.result c.requires.order c.requires.there;
}

-- that hand alone changed, and kept its list and number
pub returns : goal.returns
returns c = record {
  order = order_set c.args.list.now.table c.args.hands.now c.args.number c.index-hands-number.result
      c.requires.order c.requires.there c.is_move.new.hand c.is_move.ensures.same;
}
