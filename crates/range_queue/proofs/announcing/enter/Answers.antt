use Rattle.std.proofs.Common.{ap, ◌∙◌}
use Rattle.queue_guard.specs.Acts.{is_shown}
use Rattle.queue_guard.specs.declared.passes.QueuePass.{QueuePass}
use Rattle.range_queue.proofs.Looked.{beside_on, client_beside}
use Rattle.range_queue.proofs.Announced.{entered_by}
use Rattle.range_queue.proofs.announcing.enter.Goals as goal

-- nothing is shown yet
pub write_lo-requires-clause-hidden : goal.write_lo-requires-clause-hidden
write_lo-requires-clause-hidden g c = ap is_shown (ap (λ (x : QueuePass _). x.telling) c.count_in.ensures.pass)

pub write_lo-requires-clause-number : goal.write_lo-requires-clause-number
write_lo-requires-clause-number g c = (c.count_in.ensures.call.number ∙ c.requires.number.0, c.requires.number.1)

pub write_hi-requires-clause-hidden : goal.write_hi-requires-clause-hidden
write_hi-requires-clause-hidden g c = ap is_shown
    (ap (λ (x : QueuePass _). x.telling) c.write_lo.ensures.pass ∙ ap (λ (x : QueuePass _). x.telling) c.count_in.ensures.pass)

pub write_hi-requires-clause-number : goal.write_hi-requires-clause-number
write_hi-requires-clause-number g c = (c.write_lo.ensures.call.number ∙ (c.count_in.ensures.call.number ∙ c.requires.number.0), c.requires.number.1)

pub returns-clause-beside : goal.returns-clause-beside
returns-clause-beside g c =
    beside_on (client_beside c.count_in.ensures.call) (beside_on (client_beside c.write_lo.ensures.call) (client_beside c.write_hi.ensures.call))

-- it is counted, and both ends are written
pub returns-clause-entered : goal.returns-clause-entered
returns-clause-entered g c =
    entered_by c.args.asked.now c.count_in.ensures.pass c.write_lo.ensures.pass c.write_hi.ensures.pass c.lo.ensures.low c.hi_word-hi.ensures

-- the seat is still of the table
pub write_lo-requires-clause-table : goal.write_lo-requires-clause-table
write_lo-requires-clause-table g c = c.count_in.ensures.call.table ∙ c.requires.table

pub write_hi-requires-clause-table : goal.write_hi-requires-clause-table
write_hi-requires-clause-table g c = c.write_lo.ensures.call.table ∙ (c.count_in.ensures.call.table ∙ c.requires.table)
