use Rattle.std.proofs.Common.{refl, ◌+◌}
use Rattle.lock_core.specs.Client.{exchanges}
use Rattle.queue_guard.specs.declared.passes.Act.TheVariants.{Draws}
use Rattle.queue_guard.specs.Places.{next_place}
use Rattle.range_queue.proofs.Acting.{may, drawn_match}
use Rattle.range_queue.proofs.telling.draw.Goals as goal

-- a seat that is counted may draw a ticket
pub exchange_as_uncounted-requires-clause-allowed : goal.exchange_as_uncounted-requires-clause-allowed
exchange_as_uncounted-requires-clause-allowed g c = may g.G.Guard.holds g.G.Guard.allows c.args.seat.now.number c.args.seat.now.held c.args.seat.now.pass
    Draws (exchanges next_place c.args.ticket (c.args.ticket + 1)) (λ words. (_, (c.args.ticket, refl, c.requires.counted, c.requires.low, refl)))

-- it is drawn, or another one was found
pub returns-clause-pass : goal.returns-clause-pass
returns-clause-pass g c = drawn_match g.G.Guard.holds g.G.Guard.allows c.args.seat.now.number c.args.seat.now.held c.args.seat.now.pass
    c.args.ticket c.exchange_as_uncounted.result c.exchange_as_uncounted.new.seat.pass c.exchange_as_uncounted.ensures.made
