use Rattle.lock_core.specs.Client.{exchanges}
use Rattle.range_queue.proofs.Inside.{seat_may, seat_exchanged}
use Rattle.range_queue.proofs.table.QueueTable.exchange_as.Goals as goal

-- the guard behind the queue allows it
pub exchange_as_uncounted-requires-clause-allowed : goal.exchange_as_uncounted-requires-clause-allowed
exchange_as_uncounted-requires-clause-allowed g c = seat_may g.G.Guard.holds g.G.Guard.allows g.M.Means.note c.seat.inside.seat c.args.seat.now c.seat.view_is
    (exchanges c.args.i c.args.expected c.args.new) c.requires.allowed

pub returns-clause-pass : goal.returns-clause-pass
returns-clause-pass g c = (seat_exchanged g.G.Guard.holds g.G.Guard.allows g.M.Means.note c.seat.inside.seat c.args.seat.now c.seat.view_is
    c.args.i c.args.expected c.args.new c.exchange_as_uncounted.result c.exchange_as_uncounted.new.seat.pass c.exchange_as_uncounted.ensures.made).0

-- it was made over that guard's words
pub returns-clause-made : goal.returns-clause-made
returns-clause-made g c = (seat_exchanged g.G.Guard.holds g.G.Guard.allows g.M.Means.note c.seat.inside.seat c.args.seat.now c.seat.view_is
    c.args.i c.args.expected c.args.new c.exchange_as_uncounted.result c.exchange_as_uncounted.new.seat.pass c.exchange_as_uncounted.ensures.made).1
