use Rattle.std.proofs.Common.{sym, ◌∙◌, subst}
use Rattle.marked_list.specs.declared.answers.Linked.{Linked}
use Rattle.marked_list.specs.Answers.{Links}
use Rattle.range_rw.proofs.Insertion.{lost_ends}
use Rattle.range_rw.proofs.inserting.walk_and_link.Goals as goal

-- the lost link refuses the try
pub returns-in-Lost-clause-ends : goal.returns-in-Lost-clause-ends
returns-in-Lost-clause-ends g c = let q = c.walk-walked.new.hand.part in let r = c.link.new.hand.part in lost_ends c.args.hand.now.part q c.walk-walked.result
    c.requires.order.is.order c.walk-walked.ensures.later c.walk-walked.ensures.answer (sym c.is_place.ensures ∙ c.if-not-is_place.false) r c.link.ensures.call
    c.link.ensures.look c.walk-walked.ensures.long c.in-Lost.lost (subst (λ (t : Linked). Links q r t) c.in-Lost.is c.link.ensures.answer)
