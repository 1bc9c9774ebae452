use Rattle.epoch_pools.specs.Beside.{given_back}
use Rattle.marked_list.proofs.Owning.{may_aim, aimed_is}
use Rattle.marked_list.proofs.own.aim.Goals as goal

-- a node with both ends may be aimed
pub step-requires-clause-enabled : goal.step-requires-clause-enabled
step-requires-clause-enabled g c = may_aim c.args.hand.now.part c.requires.may

-- it is aimed at the cursor's word, or at the end
pub returns-clause-aimed : goal.returns-clause-aimed
returns-clause-aimed g c = aimed_is c.args.hand.now.part c.requires.may (given_back g.G.Guard.rested) c.step.new.hand.part c.step.result
    c.step.ensures.made c.view.ensures.sound
