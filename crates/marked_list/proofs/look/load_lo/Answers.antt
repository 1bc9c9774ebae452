use Rattle.lock_core.specs.declared.steps.Step.TheVariants.{ReadLo}
use Rattle.epoch_pools.specs.Beside.{given_back}
use Rattle.marked_list.proofs.Lines.{IsStepFrom}
use Rattle.marked_list.proofs.Judging.{may_read_lo, lo_known, lo_loaded, lo_others, lo_walked}
use Rattle.marked_list.proofs.look.load_lo.Given.{Over}
use Rattle.marked_list.proofs.look.load_lo.Goals as goal
use Rattle.marked_list.proofs.look.load_lo.Goals.{After-step}

-- the lower end may be loaded, since the next word is known and has no mark
pub step-requires-clause-enabled : goal.step-requires-clause-enabled
step-requires-clause-enabled g c = let k = c.requires.knows in may_read_lo c.args.hand.now.part k.1 k.2

-- the load was made
made : (g : Over) (c : After-step g) → IsStepFrom (given_back g.G.Guard.rested) c.args.hand.now.part c.step.new.hand.part ReadLo c.step.result
made g c = record { made = c.step.ensures.made }

-- the lower end is known after the load
pub returns-clause-knows : goal.returns-clause-knows
returns-clause-knows g c = let k = c.requires.knows in
    (k.0, lo_known c.args.hand.now.part k.1 k.2 (made g (goal.at.returns-clause-knows g c).After-step), k.2)

-- the cursor stays at its node
pub returns-clause-load : goal.returns-clause-load
returns-clause-load g c = let k = c.requires.knows in lo_loaded c.args.hand.now.part k.1 k.2 (made g (goal.at.returns-clause-load g c).After-step)

-- the node is still another seat's, or the own linked one
pub returns-clause-other : goal.returns-clause-other
returns-clause-other g c = let k = c.requires.knows in
    lo_others c.args.hand.now.part k.1 k.2 (made g (goal.at.returns-clause-other g c).After-step) c.requires.other

-- the step that found the node stays
pub returns-clause-walked : goal.returns-clause-walked
returns-clause-walked g c = let k = c.requires.knows in lo_walked c.args.hand.now.part k.1 k.2 (made g (goal.at.returns-clause-walked g c).After-step)
