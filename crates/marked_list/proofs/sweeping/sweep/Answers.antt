use Rattle.marked_list.proofs.Swept.{Sweeping, may_begin, swept_long, swept_bounded, swept_walk, swept_answer, swept_is}
use Rattle.marked_list.proofs.sweeping.sweep.Given.{Over}
use Rattle.marked_list.proofs.sweeping.sweep.Goals as goal
use Rattle.marked_list.proofs.sweeping.sweep.Goals.{After-end}

-- the hand has just entered its epoch, without an own node
pub whole_walk-answer-requires-clause-begins : goal.whole_walk-answer-requires-clause-begins
whole_walk-answer-requires-clause-begins g c =
    may_begin c.args.hand.now.part c.requires.order c.begin-cursor.ensures.made c.begin-cursor.ensures.inside

-- the parts of the sweep
parts : (g : Over) (c : After-end g) → Sweeping c.args.hand.now.part c.begin-cursor.new.hand.part c.whole_walk-answer.new.hand.part c.end.new.hand.part
    c.whole_walk-answer.result
parts g c = record {
  may = c.requires.order;
  entering = c.begin-cursor.ensures.made;
  on = c.whole_walk-answer.ensures.later;
  answer = c.whole_walk-answer.ensures.answer;
  leaving = c.end.ensures.made;
}

-- the hand is outside again, with the pools that it had
pub returns-clause-swept : goal.returns-clause-swept
returns-clause-swept g c = swept_is (parts g (goal.at.returns-clause-swept g c).After-end) c.end.ensures.outside

-- the answer of the walk is that of the sweep
pub returns-clause-answer : goal.returns-clause-answer
returns-clause-answer g c = swept_answer (parts g (goal.at.returns-clause-answer g c).After-end) c.view.ensures.sound

-- Long comes exactly where the walk is spent
pub returns-clause-long : goal.returns-clause-long
returns-clause-long g c = swept_long (parts g (goal.at.returns-clause-long g c).After-end) c.whole_walk-answer.ensures.long

-- the walk was begun in this call
pub returns-clause-walk : goal.returns-clause-walk
returns-clause-walk g c = swept_walk (parts g (goal.at.returns-clause-walk g c).After-end) c.whole_walk-answer.ensures.walk

-- it has looked at no more nodes than a walk may
pub returns-clause-bounded : goal.returns-clause-bounded
returns-clause-bounded g c = swept_bounded (parts g (goal.at.returns-clause-bounded g c).After-end) c.whole_walk-answer.ensures.bounded
