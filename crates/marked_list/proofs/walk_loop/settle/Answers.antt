use Rattle.std.proofs.Common.{rules}
use Rattle.lock_core.specs.declared.steps.Step.TheVariants.{Settle}
use Rattle.epoch_pools.specs.Beside.{given_back}
use Rattle.marked_list.proofs.Lines.{IsStepFrom, cursor_read}
use Rattle.marked_list.proofs.Beginning.{may_settle, settle_is, settle_lost}
use Rattle.marked_list.proofs.walk_loop.settle.Given.{Over}
use Rattle.marked_list.proofs.walk_loop.settle.Goals as goal
use Rattle.marked_list.proofs.walk_loop.settle.Goals.{After-step-found}

-- the low bit may be taken from a head that was found with it
pub step-found-requires-clause-enabled : goal.step-found-requires-clause-enabled
step-found-requires-clause-enabled g c = may_settle c.args.hand.now.part c.requires.head

-- the exchange was made
made : (g : Over) (c : After-step-found g) → IsStepFrom (given_back g.G.Guard.rested) c.args.hand.now.part c.step-found.new.hand.part Settle c.step-found.result
made g c = record { made = c.step-found.ensures.made }

-- the head was another, so the exchange is lost
pub returns-then-found-cursor-clause-lost : goal.returns-then-found-cursor-clause-lost
returns-then-found-cursor-clause-lost g c =
    settle_lost c.args.hand.now.part c.requires.head (made g (goal.at.returns-then-found-cursor-clause-lost g c).After-step-found)
    (cursor_read c.view.ensures.view c.in-Some.is) c.if-found-cursor.true c.view.ensures.sound c.requires.room c.seats.result (search rules) c.lost_at.result
    c.lost_at.ensures.place c.lost_at.ensures.values.0 c.lost_at.ensures.values.1

-- the head was the same, so the bit is gone
pub returns-clause-settled : goal.returns-clause-settled
returns-clause-settled g c = λ _. settle_is c.args.hand.now.part c.requires.head (made g (goal.at.returns-clause-settled g c).After-step-found)
    (cursor_read c.view.ensures.view c.in-Some.is) c.if-found-cursor.false
