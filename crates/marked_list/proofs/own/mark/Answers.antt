use Rattle.epoch_pools.specs.Beside.{given_back, may_give_back}
use Rattle.marked_list.proofs.Owning.{mark_call}
use Rattle.marked_list.proofs.own.mark.Goals as goal

-- what marking the own node leaves
pub returns-clause-marked : goal.returns-clause-marked
returns-clause-marked g c = mark_call (may_give_back g.G.Guard.is_at_rest) c.args.hand.now.part c.requires.order (given_back g.G.Guard.rested)
    c.step.new.hand.part c.step.result c.step.ensures.made c.view.ensures.sound
