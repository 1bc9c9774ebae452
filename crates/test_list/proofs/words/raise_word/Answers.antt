use Rattle.test_list.proofs.Hands.{table_at, order_set}
use Rattle.test_list.proofs.words.raise_word.Goals as goal

-- the hand at the place is of the list
pub raise-requires-clause-table : goal.raise-requires-clause-table
raise-requires-clause-table c = table_at c.args.list.now.table c.args.hands.now c.args.number c.index-hands-number.result c.requires.order c.requires.there

-- that hand alone changed, and kept its list and number
pub returns : goal.returns
returns c = record {
  order = order_set c.args.list.now.table c.args.hands.now c.args.number c.index-hands-number.result
      c.requires.order c.requires.there c.raise.new.hand c.raise.ensures.same;
}
