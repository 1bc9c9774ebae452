use Rattle.std.proofs.Common.{rules, ap, ◌∙◌}
use Rattle.std.specs.Prelude.{◌%◌}
use Rattle.epoch_pools.specs.declared.views.Beside.{Beside}
use Rattle.range_rw.proofs.Scans.{list_gives}
use Rattle.range_rw.proofs.SeatedScans.{own_free, walked_later, end_at}
use Rattle.range_rw.proofs.scan.pass_here.Goals as goal

-- the hand has no node of its own
pub pass-passed-requires-clause-own : goal.pass-passed-requires-clause-own
pass-passed-requires-clause-own g c = own_free c.args.hand.now.part c.requires.inside.is.seat

-- and its cursor rests
pub pass-passed-requires-clause-resting : goal.pass-passed-requires-clause-resting
pass-passed-requires-clause-resting g c = c.requires.inside.is.seat.between.cursor

-- the seat still holds nothing, and its hand is inside its epoch
pub returns-clause-later : goal.returns-clause-later
returns-clause-later g c = let e = c.pass-passed.ensures in let scan = c.requires.inside.is in record {
  counted = search rules;
  is = record {
    later = walked_later c.args.hand.now.part c.pass-passed.new.hand.part scan.seat e.later e.own e.resting;
    inside = record { odd = ap (λ n. n % 2) e.later.epoch ∙ scan.inside.odd; hand = e.later.hand };
  };
}

-- in the same list
pub returns-clause-list : goal.returns-clause-list
returns-clause-list g c = ap (λ (b : Beside _). b.list) c.pass-passed.ensures.later.pass

-- at the answer that the end was read its cursor stands there
pub returns-clause-end : goal.returns-clause-end
returns-clause-end g c = λ is. end_at c.args.hand.now.part c.pass-passed.new.hand.part c.pass-passed.result c.pass-passed.ensures.answer is

-- and the answer of the list is what the call comes to there
pub returns-clause-gives : goal.returns-clause-gives
returns-clause-gives g c = λ was opened. let e = c.pass-passed.ensures in list_gives c.args.hand.now.table c.pass-passed.new.hand.table c.args.hand.now.part
    c.pass-passed.new.hand.part c.requires.inside.is.inside e.later c.view-2.ensures.sound c.view.ensures.sound e.walk c.list.ensures.noted was opened
    c.pass-passed.result e.moved e.resting e.answer
