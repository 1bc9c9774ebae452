use Rattle.std.proofs.Common.{ap, ◌∙◌}
use Rattle.epoch_pools.specs.declared.views.SeatPart.{SeatPart}
use Rattle.range_rw.proofs.Insertion.{may_end_in, insert_ends, insert_long}
use Rattle.range_rw.proofs.inserting.insert_in_epoch.Goals as goal

-- no node is between its link and the end of its validation
pub end-requires-clause-order : goal.end-requires-clause-order
end-requires-clause-order g c = let e = c.begin-cursor in let w = c.insert_and_validate-walked in may_end_in c.args.hand.now.part e.new.hand.part
    c.requires.own.is.own
    e.ensures.made w.new.hand.part w.ensures.later.is.later c.args.patient w.result c.args.leaves w.ensures.ends e.ensures.inside

-- the range is held, or the hand has no own node
pub returns-clause-ends : goal.returns-clause-ends
returns-clause-ends g c = let e = c.begin-cursor in let w = c.insert_and_validate-walked in insert_ends c.args.hand.now.part e.new.hand.part
    c.requires.own.is.own
    e.ensures.made w.new.hand.part w.ensures.later.is.later c.end.new.hand.part c.end.ensures.made c.args.patient w.result c.args.leaves w.ensures.ends

-- Long comes exactly where the walk is spent
pub returns-clause-long : goal.returns-clause-long
returns-clause-long g c = let e = c.begin-cursor in let w = c.insert_and_validate-walked in insert_long c.args.hand.now.part e.new.hand.part
    c.requires.own.is.own
    e.ensures.made w.new.hand.part w.ensures.later.is.later c.end.new.hand.part c.end.ensures.made c.args.patient w.result c.args.leaves w.ensures.ends
    w.ensures.long

-- no step of it asks for a range
pub returns-clause-asked : goal.returns-clause-asked
returns-clause-asked g c = ap (λ (x : SeatPart _). x.trace.asked) c.end.ensures.made
    ∙ (c.insert_and_validate-walked.ensures.later.is.later.asked ∙ ap (λ (x : SeatPart _). x.trace.asked) c.begin-cursor.ensures.made)
