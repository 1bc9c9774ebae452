use Rattle.std.proofs.Common.{rules, inr}
use Rattle.lock_core.specs.declared.steps.Step.TheVariants.{Link}
use Rattle.epoch_pools.specs.Beside.{given_back}
use Rattle.marked_list.proofs.Lines.{IsStepFrom, cursor_read}
use Rattle.marked_list.proofs.Owning.{may_link, link_asks, link_call, link_look, link_done, link_lost}
use Rattle.marked_list.proofs.own.link.Given.{Over}
use Rattle.marked_list.proofs.own.link.Goals as goal
use Rattle.marked_list.proofs.own.link.Goals.{After-step-found}

-- the node has both ends, and the cursor is at its place
pub aim-requires-clause-may : goal.aim-requires-clause-may
aim-requires-clause-may g c = record { own = c.requires.order.own; place = inr c.requires.order.place }

-- a node that is aimed at the cursor's word may be linked
pub step-found-requires-clause-enabled : goal.step-found-requires-clause-enabled
step-found-requires-clause-enabled g c = may_link c.aim.ensures.aimed c.requires.order

-- the exchange was made
made : (g : Over) (c : After-step-found g) → IsStepFrom (given_back g.G.Guard.rested) c.aim.new.hand.part c.step-found.new.hand.part Link c.step-found.result
made g c = record { made = c.step-found.ensures.made }

-- aim and link are a call of two steps, also where the link is lost
pub returns-clause-call : goal.returns-clause-call
returns-clause-call g c = link_call c.aim.ensures.aimed c.requires.order (made g (goal.at.returns-clause-call g c).After-step-found)

pub returns-then-found-place-clause-call : goal.returns-then-found-place-clause-call
returns-then-found-place-clause-call g c =
    link_call c.aim.ensures.aimed c.requires.order (made g (goal.at.returns-then-found-place-clause-call g c).After-step-found)

-- neither step asks for a range
pub returns-clause-asked : goal.returns-clause-asked
returns-clause-asked g c = link_asks c.aim.ensures.aimed c.requires.order (made g (goal.at.returns-clause-asked g c).After-step-found)

pub returns-then-found-place-clause-asked : goal.returns-then-found-place-clause-asked
returns-then-found-place-clause-asked g c =
    link_asks c.aim.ensures.aimed c.requires.order (made g (goal.at.returns-then-found-place-clause-asked g c).After-step-found)

-- neither step looks at a node
pub returns-clause-look : goal.returns-clause-look
returns-clause-look g c = link_look c.aim.ensures.aimed c.requires.order (made g (goal.at.returns-clause-look g c).After-step-found) c.view.ensures.sound

pub returns-then-found-place-clause-look : goal.returns-then-found-place-clause-look
returns-then-found-place-clause-look g c =
    link_look c.aim.ensures.aimed c.requires.order (made g (goal.at.returns-then-found-place-clause-look g c).After-step-found) c.view.ensures.sound

-- the exchange found the cursor's word, so the node is linked
pub returns-clause-answer : goal.returns-clause-answer
returns-clause-answer g c = link_done c.aim.ensures.aimed c.requires.order (made g (goal.at.returns-clause-answer g c).After-step-found)
    (cursor_read c.view.ensures.view c.in-Some.is) c.if-found-place.false

-- the exchange found another word, so the node is only aimed
pub returns-then-found-place-clause-answer : goal.returns-then-found-place-clause-answer
returns-then-found-place-clause-answer g c =
    link_lost c.aim.ensures.aimed c.requires.order (made g (goal.at.returns-then-found-place-clause-answer g c).After-step-found)
    (cursor_read c.view.ensures.view c.in-Some.is) c.if-found-place.true c.seats.result
    (search rules) c.lost_at.result c.lost_at.ensures.place c.lost_at.ensures.values.0 c.lost_at.ensures.values.1
