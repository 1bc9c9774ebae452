use Rattle.std.proofs.Common.{rules, ◌↔◌, sym, ◌∙◌}
use Rattle.epoch_pools.specs.Beside.{given_back}
use Rattle.marked_list.specs.Answers.{IsLong}
use Rattle.marked_list.specs.Causes.{IsSpent}
use Rattle.range_rw.specs.Trying.{IsLaterInEpoch, ValidateEnds}
use Rattle.range_rw.proofs.Insertion.{marked_all, may_mark_on}
use Rattle.range_rw.proofs.inserting.validate_and_mark.Given.{Over}
use Rattle.range_rw.proofs.inserting.validate_and_mark.Goals.{After-mark}
use Rattle.range_rw.proofs.inserting.validate_and_mark.Goals as goal

-- what the mark of a node leaves whose validation was refused
marked : (g : Over) (c : After-mark g) → IsLaterInEpoch c.args.hand.now.part c.mark.new.hand.part
    × ValidateEnds c.args.patient c.args.hand.now.part c.mark.new.hand.part c.validate_or_look-walked.result
    × (IsLong c.validate_or_look-walked.result ↔ IsSpent c.mark.new.hand.part)
marked g c = let v = c.validate_or_look-walked.ensures in marked_all c.args.hand.now.part c.validate_or_look-walked.new.hand.part c.requires.order.is.may.own
    v.later.is.later c.validate_or_look-walked.result v.ends (sym c.is_place.ensures ∙ c.if-is_place.false) (given_back g.G.Guard.rested)
    c.mark.new.hand.part c.mark.ensures.marked v.long

-- nothing is held, so the node may be marked
pub mark-requires-clause-order : goal.mark-requires-clause-order
mark-requires-clause-order g c = let v = c.validate_or_look-walked.ensures in may_mark_on c.args.hand.now.part c.validate_or_look-walked.new.hand.part
    c.requires.order.is.may.own v.later.is.later c.validate_or_look-walked.result v.ends (sym c.is_place.ensures ∙ c.if-is_place.false) _

-- validation and mark are in one epoch
pub returns-clause-later : goal.returns-clause-later
returns-clause-later g c = record { counted = search rules; is = record { later = (marked g c).0; cursor = search rules } }

-- the node is marked, and the answer refuses the try
pub returns-clause-ends : goal.returns-clause-ends
returns-clause-ends g c = (marked g c).1

-- Long comes exactly where the walk is spent
pub returns-clause-long : goal.returns-clause-long
returns-clause-long g c = (marked g c).2
