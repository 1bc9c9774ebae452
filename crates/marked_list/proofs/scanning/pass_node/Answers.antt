use Rattle.std.proofs.Common.{sym, subst}
use Rattle.lock_core.specs.declared.steps.Step.TheVariants.{ReadHi}
use Rattle.epoch_pools.specs.Beside.{given_back}
use Rattle.marked_list.specs.declared.answers.Passed.{Passed}
use Rattle.marked_list.specs.Causes.{judged_in}
use Rattle.marked_list.specs.Scanning.{PassesFrom}
use Rattle.marked_list.proofs.Judging.{judged_range, judged_walk, past_passes}
use Rattle.marked_list.proofs.Lines.{IsStepFrom, cursor_read}
use Rattle.marked_list.proofs.scanning.pass_node.Given.{Over}
use Rattle.marked_list.proofs.scanning.pass_node.Goals as goal
use Rattle.marked_list.proofs.scanning.pass_node.Goals.{After-step-word}

-- the load was made
made : (g : Over) (c : After-step-word g) → IsStepFrom (given_back g.G.Guard.rested) c.args.hand.now.part c.step-word.new.hand.part ReadHi c.step-word.result
made g c = record { made = c.step-word.ensures.made }

-- both ends are those of a range
pub found-requires-clause-range : goal.found-requires-clause-range
found-requires-clause-range g c = let k = c.requires.knows in
    judged_range c.args.hand.now.part k.1 k.2 (made g (goal.at.found-requires-clause-range g c).After-step-word) c.step-word.ensures.told

-- it is the same walk
pub returns-clause-walk : goal.returns-clause-walk
returns-clause-walk g c = let k = c.requires.knows in judged_walk c.args.hand.now.part k.1 k.2 (made g (goal.at.returns-clause-walk g c).After-step-word)

-- the scan went past the node that its cursor was at
pub returns-clause-answer : goal.returns-clause-answer
returns-clause-answer g c = let k = c.requires.knows in let p = c.args.hand.now.part in let q = c.step-word.new.hand.part in
    subst (λ (a : Passed). PassesFrom p.trace.walked (judged_in p.trace.looked) q a) (sym c.found.ensures)
    (past_passes p k.1 k.2 (made g (goal.at.returns-clause-answer g c).After-step-word) c.requires.own
    c.requires.walked c.view.ensures.sound c.view-2.ensures.sound c.requires.room
    (cursor_read c.view.ensures.view c.in-Some.is))
