use Rattle.std.proofs.Common.{rules, sym, ap, ◌∙◌, subst}
use Rattle.std.specs.Prelude.{Option}
use Rattle.lock_core.specs.declared.steps.Step.TheVariants.{ReadHi}
use Rattle.lock_core.specs.declared.views.View.{View}
use Rattle.epoch_pools.specs.Beside.{given_back}
use Rattle.marked_list.specs.declared.answers.Walked.{Walked}
use Rattle.marked_list.specs.Walking.{judgement_at, Outcome}
use Rattle.marked_list.proofs.Judging.{may_read_hi, judged_on, judged_walk, judged_taken, judged_range, judged_outcome, names_node}
use Rattle.marked_list.proofs.Lines.{IsStepFrom}
use Rattle.marked_list.proofs.look.judge.Given.{Over}
use Rattle.marked_list.proofs.look.judge.Goals as goal
use Rattle.marked_list.proofs.look.judge.Goals.{After-step-word}

-- the higher end may be loaded, since the lower one is known
pub step-word-requires-clause-enabled : goal.step-word-requires-clause-enabled
step-word-requires-clause-enabled g c = let k = c.requires.knows in may_read_hi c.args.hand.now.part k.1 k.2

-- the load was made
made : (g : Over) (c : After-step-word g) → IsStepFrom (given_back g.G.Guard.rested) c.args.hand.now.part c.step-word.new.hand.part ReadHi c.step-word.result
made g c = record { made = c.step-word.ensures.made }

-- both ends are those of a range
pub judgement-requires-clause-range : goal.judgement-requires-clause-range
judgement-requires-clause-range g c = let k = c.requires.knows in
    judged_range c.args.hand.now.part k.1 k.2 (made g (goal.at.judgement-requires-clause-range g c).After-step-word) c.step-word.ensures.told

-- what a call that walks leaves
pub returns-clause-later : goal.returns-clause-later
returns-clause-later g c = let k = c.requires.knows in judged_on c.args.hand.now.part k.1 k.2 (made g (goal.at.returns-clause-later g c).After-step-word)

-- it is the same walk
pub returns-clause-walk : goal.returns-clause-walk
returns-clause-walk g c = let k = c.requires.knows in judged_walk c.args.hand.now.part k.1 k.2 (made g (goal.at.returns-clause-walk g c).After-step-word)

-- in one step
pub returns-clause-taken : goal.returns-clause-taken
returns-clause-taken g c = let k = c.requires.knows in judged_taken c.args.hand.now.part k.1 k.2 (made g (goal.at.returns-clause-taken g c).After-step-word)

-- a cursor that stays at its node names one
pub judgement-requires-clause-node : goal.judgement-requires-clause-node
judgement-requires-clause-node g c = names_node c.args.hand.now.part.seats c.args.hand.now.part.number c.view.result.now (search rules) (search rules)

-- what the judgement tells is what the look came to
pub returns-clause-outcome : goal.returns-clause-outcome
returns-clause-outcome g c = let k = c.requires.knows in let p = c.args.hand.now.part in let q = c.step-word.new.hand.part in let w = c.step-word.result in
    subst (λ (o : Option Walked). Outcome p.trace.walked p.core q o)
    (sym (c.judgement.ensures ∙ ap (λ (v : View). judgement_at v.own v.cursor c.args.lo w) c.view.ensures.view))
    (judged_outcome p k.1 k.2 (made g (goal.at.returns-clause-outcome g c).After-step-word) c.step-word.ensures.told
    c.view.ensures.sound c.requires.room c.requires.other c.requires.walked)
