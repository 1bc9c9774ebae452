use Rattle.test_list.proofs.Hands.{table_at, order_set}
use Rattle.test_list.proofs.keeping.let_go_by.Goals as goal

-- the hand at the place is of the list
pub let_go-requires : goal.let_go-requires
let_go-requires c = record {
  table = table_at c.args.list.now.table c.args.hands.now c.args.number c.index-hands-number.result c.requires.order c.requires.there;
}

-- that hand alone changed, and kept its list and number
pub returns : goal.returns
returns c = record {
  order = order_set c.args.list.now.table c.args.hands.now c.args.number c.index-hands-number.result
      c.requires.order c.requires.there c.let_go.new.hand c.let_go.ensures.same;
}
