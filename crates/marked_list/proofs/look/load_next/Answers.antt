use Rattle.lock_core.specs.declared.steps.Step.TheVariants.{Walk}
use Rattle.epoch_pools.specs.Beside.{given_back}
use Rattle.marked_list.proofs.Lines.{IsStepFrom}
use Rattle.marked_list.proofs.Judging.{may_walk, next_known, next_loaded, next_others, next_walked}
use Rattle.marked_list.proofs.look.load_next.Given.{Over}
use Rattle.marked_list.proofs.look.load_next.Goals as goal
use Rattle.marked_list.proofs.look.load_next.Goals.{After-step}

-- a cursor at a node may load its next word
pub step-requires-clause-enabled : goal.step-requires-clause-enabled
step-requires-clause-enabled g c = may_walk c.args.hand.now.part c.requires.stands

-- the load was made
made : (g : Over) (c : After-step g) → IsStepFrom (given_back g.G.Guard.rested) c.args.hand.now.part c.step.new.hand.part Walk c.step.result
made g c = record { made = c.step.ensures.made }

-- the next word is known after the load
pub returns-clause-knows : goal.returns-clause-knows
returns-clause-knows g c = next_known c.args.hand.now.part c.requires.stands (made g (goal.at.returns-clause-knows g c).After-step)

-- the cursor stays at its node
pub returns-clause-load : goal.returns-clause-load
returns-clause-load g c = next_loaded c.args.hand.now.part c.requires.stands (made g (goal.at.returns-clause-load g c).After-step)

-- an unmarked node is another seat's, or the own linked one
pub returns-clause-other : goal.returns-clause-other
returns-clause-other g c =
    next_others c.args.hand.now.part c.requires.stands (made g (goal.at.returns-clause-other g c).After-step) c.step.ensures.told

-- this step found the node
pub returns-clause-walked : goal.returns-clause-walked
returns-clause-walked g c = next_walked c.args.hand.now.part c.requires.stands (made g (goal.at.returns-clause-walked g c).After-step)
