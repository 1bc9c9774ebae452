use Rattle.std.proofs.Common.{ap, ◌∙◌, arith}
use Rattle.std.specs.Prelude.{◌%◌, None}
use Rattle.lock_core.specs.declared.views.View.{View}
use Rattle.range_rw.proofs.Asking.{for_here, for_kept}
use Rattle.range_rw.proofs.Later.{calls_later}
use Rattle.range_rw.proofs.Taking.{has_ends}
use Rattle.range_rw.specs.Calls.{Leaves}
use Rattle.range_rw.specs.Trying.{IsLaterInTry}
use Rattle.range_rw.proofs.trying.fill_and_link.Given.{Over}
use Rattle.range_rw.proofs.trying.fill_and_link.Goals.{After-quick_link}
use Rattle.range_rw.proofs.trying.fill_and_link.Goals as goal

-- the node is filled, and the hand is outside
pub quick_link-requires-clause-order : goal.quick_link-requires-clause-order
quick_link-requires-clause-order g c = record {
  even = ap (λ (v : View). v.epoch % 2) c.fill.ensures.filled ∙ c.requires.outside.even;
  own = has_ends c.fill.new.hand.part.core.own c.args.node c.args.range.lo c.args.range.hi c.args.mode None (ap (λ (v : View). v.own) c.fill.ensures.filled);
}

-- the fill asks for the range
pub returns-in-Done-clause-asks : goal.returns-in-Done-clause-asks
returns-in-Done-clause-asks g c = for_kept (for_here c.fill.ensures.asked) c.quick_link.ensures.asked

-- also where another node is in the list
pub returns-in-Lost-clause-asks : goal.returns-in-Lost-clause-asks
returns-in-Lost-clause-asks g c = for_kept (for_here c.fill.ensures.asked) c.quick_link.ensures.asked

-- both calls are of the try
both : (g : Over) (c : After-quick_link g) → Leaves IsLaterInTry c.args.hand.now c.quick_link.new.hand c.args.steps.now c.quick_link.new.steps
both g c = record {
  counted = record {
    table = c.quick_link.ensures.table ∙ c.fill.ensures.table;
    steps = let a = c.fill.ensures.counted in let b = c.quick_link.ensures.counted in let x = c.fill.ensures.call.taken in
        let y = c.quick_link.ensures.call.taken in omega arith;
  };
  is = calls_later c.args.hand.now.part c.fill.new.hand.part c.quick_link.new.hand.part c.fill.ensures.call c.quick_link.ensures.call;
}

pub returns-in-Done-clause-later : goal.returns-in-Done-clause-later
returns-in-Done-clause-later g c = both g (goal.at.returns-in-Done-clause-later g c).After-quick_link

-- also where another node is in the list
pub returns-in-Lost-clause-later : goal.returns-in-Lost-clause-later
returns-in-Lost-clause-later g c = both g (goal.at.returns-in-Lost-clause-later g c).After-quick_link
