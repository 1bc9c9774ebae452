use Rattle.range_rw.proofs.Looking.{may_look}
use Rattle.range_rw.proofs.patience.look_again.Goals as goal

-- the node in conflict may be looked at once more
pub validate-last-requires-clause-order : goal.validate-last-requires-clause-order
validate-last-requires-clause-order g c = may_look c.args.hand.now.part c.loop.hand.part c.requires.order.is.inside c.requires.order.is.own c.requires.reader
    c.loop.invariant.later.is.later c.loop.invariant.own c.loop.invariant.conflict

-- the looks so far and this one are in one epoch
