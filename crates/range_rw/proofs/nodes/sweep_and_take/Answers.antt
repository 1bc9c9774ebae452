use Rattle.std.proofs.Common.{sym, ap, ◌∙◌, subst, arith}
use Rattle.epoch_pools.specs.declared.views.Beside.{Beside}
use Rattle.epoch_pools.specs.declared.stuck.Taken.{Taken}
use Rattle.epoch_pools.specs.Taking.{IsTaken}
use Rattle.range_rw.proofs.Taking.{swept_misses, stuck_misses, sweep_take}
use Rattle.range_rw.specs.Calls.{Leaves}
use Rattle.range_rw.specs.Trying.{IsLaterInTry}
use Rattle.range_rw.proofs.nodes.sweep_and_take.Given.{Over}
use Rattle.range_rw.proofs.nodes.sweep_and_take.Goals.{After-take-taken}
use Rattle.range_rw.proofs.nodes.sweep_and_take.Goals as goal

-- the sweep's answer is why there is no node
pub returns-in-Some-clause-missed : goal.returns-in-Some-clause-missed
returns-in-Some-clause-missed g c = let same = ap (λ (b : Beside _). b.list) c.sweep-walked.ensures.swept.pass in swept_misses c.list-here.result
    c.args.hand.now.table c.args.hand.now.part c.sweep-walked.new.hand.part c.sweep-walked.ensures.swept c.sweep-walked.ensures.walk c.requires.empty.is.empty
    (c.list-here.ensures.noted ∙ same) (c.list-here.ensures.list ∙ same) c.sweep-walked.result c.in-Some.why (sym c.refusal_of.ensures ∙ c.in-Some.is)
    c.sweep-walked.ensures.answer c.sweep-walked.ensures.long

-- the sweep read the end, and what hinders the pools is why there is no node
pub returns-in-Out-clause-missed : goal.returns-in-Out-clause-missed
returns-in-Out-clause-missed g c = let s = c.sweep-walked.new.hand.part in let q = c.take-taken.new.hand.part in
    let same = ap (λ (b : Beside _). b.list) c.sweep-walked.ensures.swept.pass in stuck_misses c.list-here.result c.args.hand.now.table c.args.hand.now.part s
    c.sweep-walked.ensures.swept c.sweep-walked.ensures.walk c.requires.empty.is.empty (c.list-here.ensures.noted ∙ same) (c.list-here.ensures.list ∙ same) q
    c.take-taken.ensures.call c.sweep-walked.result c.in-Out.stuck (sym c.refusal_of.ensures ∙ c.in_default.is) c.sweep-walked.ensures.answer
    c.sweep-walked.ensures.long (subst (λ (t : Taken). IsTaken s q t) c.in-Out.is c.take-taken.ensures.cause) c.take-taken.ensures.outside c.view.ensures.sound

-- the sweep and what looks for a node are of the try
both : (g : Over) (c : After-take-taken g) → Leaves IsLaterInTry c.args.hand.now c.take-taken.new.hand c.args.steps.now c.take-taken.new.steps
both g c = record {
  counted = record {
    table = c.take-taken.ensures.table ∙ c.sweep-walked.ensures.table;
    steps = let a = c.sweep-walked.ensures.counted in let b = c.take-taken.ensures.counted in omega arith;
  };
  is = sweep_take c.args.hand.now.part c.sweep-walked.new.hand.part c.take-taken.new.hand.part c.sweep-walked.ensures.swept c.sweep-walked.ensures.walk
      c.take-taken.ensures.call;
}

pub returns-in-Node-clause-later : goal.returns-in-Node-clause-later
returns-in-Node-clause-later g c = both g (goal.at.returns-in-Node-clause-later g c).After-take-taken

-- also where none is to be taken
pub returns-in-Out-clause-later : goal.returns-in-Out-clause-later
returns-in-Out-clause-later g c = both g (goal.at.returns-in-Out-clause-later g c).After-take-taken
