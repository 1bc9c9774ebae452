use Rattle.std.proofs.Common.{sym, ◌∙◌}
use Rattle.range_rw.proofs.Taking.{tried_inserts, inserted, not_inserted, held_at_once}
use Rattle.range_rw.proofs.trying.try_again.Goals as goal

-- the node that the fast path didn't link is filled
pub insert_in_epoch-requires : goal.insert_in_epoch-requires
insert_in_epoch-requires g c = record { own = tried_inserts c.link_ready_node-held.ensures.link c.if-held.false c.requires.some.table }

-- what it links is held
pub returns-then-held-clause-tried : goal.returns-then-held-clause-tried
returns-then-held-clause-tried g c = held_at_once c.link_ready_node-held.ensures.link c.if-held.true

-- the node that it didn't link is inserted, and the validation holds the range
pub returns-in-None-clause-tried : goal.returns-in-None-clause-tried
returns-in-None-clause-tried g c = let epoch = c.insert_in_epoch.ensures in inserted c.link_ready_node-held.ensures.link c.in-Some.walked c.if-held.false
    epoch.left epoch.asked
    c.in-Some.ensures.ends c.list.result (sym c.refusal_of.ensures ∙ c.in-None.is)

-- or the list's answer refuses the try
pub returns-in-Some-refusal_of-clause-tried : goal.returns-in-Some-refusal_of-clause-tried
returns-in-Some-refusal_of-clause-tried g c = let epoch = c.insert_in_epoch.ensures in not_inserted c.link_ready_node-held.ensures.link c.in-Some.walked
    c.if-held.false
    epoch.left epoch.asked c.in-Some.ensures.ends c.list.result c.in-Some.ensures.long c.list.ensures.noted c.list.ensures.list
    (sym c.refusal_of.ensures ∙ c.in-Some-refusal_of.is)
