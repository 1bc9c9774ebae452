use Rattle.std.proofs.Common.{rules, ap, ◌∙◌, ◌^◌, ◌≤◌}
use Rattle.queue_guard.specs.declared.passes.QueuePass.{QueuePass}
use Rattle.range_queue.proofs.Looked.{beside_on, client_beside}
use Rattle.range_queue.proofs.Announced.{drawn_ok, drawn_not}
use Rattle.range_queue.proofs.announcing.draw_next.Goals as goal

-- no ticket is left
pub returns-then-full-clause-beside : goal.returns-then-full-clause-beside
returns-then-full-clause-beside g c = client_beside c.glance-ticket.ensures.call

pub returns-then-full-clause-drawn : goal.returns-then-full-clause-drawn
returns-then-full-clause-drawn g c = (c.glance-ticket.ensures.pass, tt)

pub draw-requires-clause-counted : goal.draw-requires-clause-counted
draw-requires-clause-counted g c = ap (λ (x : QueuePass _). x.telling) c.glance-ticket.ensures.pass ∙ c.requires.counted

pub returns-then-full-clause-full : goal.returns-then-full-clause-full
returns-then-full-clause-full g c = record {
  found = c.glance-ticket.result;
  load = c.glance-ticket.ensures.call;
  at = c.glance-ticket.ensures.found;
  none = let high : 2 ^ 62 ≤ c.glance-ticket.result = search rules in high;
}

-- it is drawn
pub returns-in-Ok-clause-beside : goal.returns-in-Ok-clause-beside
returns-in-Ok-clause-beside g c = beside_on (client_beside c.glance-ticket.ensures.call) (client_beside c.draw.ensures.call)

pub returns-in-Ok-clause-drawn : goal.returns-in-Ok-clause-drawn
returns-in-Ok-clause-drawn g c = drawn_ok c.args.seat.now.pass c.glance-ticket.new.seat.pass c.draw.new.seat.pass c.glance-ticket.result c.draw.result _
    c.glance-ticket.ensures.pass c.in-Ok.is c.draw.ensures.pass

-- another seat drew it
pub returns-in-Err-clause-beside : goal.returns-in-Err-clause-beside
returns-in-Err-clause-beside g c = beside_on (client_beside c.glance-ticket.ensures.call) (client_beside c.draw.ensures.call)

pub returns-in-Err-clause-drawn : goal.returns-in-Err-clause-drawn
returns-in-Err-clause-drawn g c = drawn_not c.args.seat.now.pass c.glance-ticket.new.seat.pass c.draw.new.seat.pass c.glance-ticket.result c.draw.result _
    c.glance-ticket.ensures.pass c.in-Err.is c.draw.ensures.pass c.requires.counted
