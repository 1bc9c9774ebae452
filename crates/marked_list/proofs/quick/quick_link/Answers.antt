use Rattle.std.proofs.Common.{refl, inl}
use Rattle.lock_core.specs.declared.steps.Step.TheVariants.{QuickLink}
use Rattle.epoch_pools.specs.Beside.{given_back}
use Rattle.marked_list.specs.declared.answers.Lost.{Lost}
use Rattle.marked_list.proofs.Lines.{IsStepFrom}
use Rattle.marked_list.proofs.Owning.{may_quick_link, quick_asks, quick_call, quick_done, quick_lost}
use Rattle.marked_list.proofs.quick.quick_link.Given.{Over}
use Rattle.marked_list.proofs.quick.quick_link.Goals as goal
use Rattle.marked_list.proofs.quick.quick_link.Goals.{After-step-found}

-- the node has both ends, and outside the epoch there is no cursor
pub aim-requires-clause-may : goal.aim-requires-clause-may
aim-requires-clause-may g c = record { own = c.requires.order.own; place = inl (c.view.ensures.sound.sound.outside c.requires.order.even) }

-- a node that is aimed at the end may be linked at the head
pub step-found-requires-clause-enabled : goal.step-found-requires-clause-enabled
step-found-requires-clause-enabled g c = may_quick_link c.aim.ensures.aimed c.requires.order c.view.ensures.sound

-- the exchange was made
made : (g : Over) (c : After-step-found g)
    → IsStepFrom (given_back g.G.Guard.rested) c.aim.new.hand.part c.step-found.new.hand.part QuickLink c.step-found.result
made g c = record { made = c.step-found.ensures.made }

-- aim and link are a call of two steps, also where the head was another
pub returns-clause-call : goal.returns-clause-call
returns-clause-call g c =
    quick_call c.aim.ensures.aimed c.requires.order c.view.ensures.sound (made g (goal.at.returns-clause-call g c).After-step-found)

pub returns-then-found-ne0-clause-call : goal.returns-then-found-ne0-clause-call
returns-then-found-ne0-clause-call g c =
    quick_call c.aim.ensures.aimed c.requires.order c.view.ensures.sound (made g (goal.at.returns-then-found-ne0-clause-call g c).After-step-found)

-- neither step asks for a range
pub returns-clause-asked : goal.returns-clause-asked
returns-clause-asked g c =
    quick_asks c.aim.ensures.aimed c.requires.order c.view.ensures.sound (made g (goal.at.returns-clause-asked g c).After-step-found)

pub returns-then-found-ne0-clause-asked : goal.returns-then-found-ne0-clause-asked
returns-then-found-ne0-clause-asked g c =
    quick_asks c.aim.ensures.aimed c.requires.order c.view.ensures.sound (made g (goal.at.returns-then-found-ne0-clause-asked g c).After-step-found)

-- the head was empty, so the range is held
pub returns-clause-answer : goal.returns-clause-answer
returns-clause-answer g c =
    quick_done c.aim.ensures.aimed c.requires.order c.view.ensures.sound (made g (goal.at.returns-clause-answer g c).After-step-found) c.if-found-ne0.false

-- the head was another, so the node is only aimed
pub returns-then-found-ne0-clause-answer : goal.returns-then-found-ne0-clause-answer
returns-then-found-ne0-clause-answer g c = let l : Lost = record { place = 0; expected = 0; found = c.step-found.result } in
    let t = quick_lost c.aim.ensures.aimed c.requires.order c.view.ensures.sound
    (made g (goal.at.returns-then-found-ne0-clause-answer g c).After-step-found) c.if-found-ne0.true l refl refl refl in (t.0, refl, refl, t.1)
