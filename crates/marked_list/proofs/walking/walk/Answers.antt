use Rattle.marked_list.proofs.Arriving.{filled_may_walk}
use Rattle.marked_list.proofs.walking.walk.Goals as goal

-- a filled node may be compared, and there is no cursor
pub whole_walk-requires-clause-begins : goal.whole_walk-requires-clause-begins
whole_walk-requires-clause-begins g c = record {
  inside = c.requires.order.inside;
  own = filled_may_walk c.args.hand.now.part.core.own c.requires.order.own;
  cursor = c.requires.order.cursor;
}
