use Rattle.lock_core.specs.Client.{stores}
use Rattle.range_queue.proofs.Inside.{seat_may, seat_made}
use Rattle.range_queue.proofs.table.QueueTable.store_as.Goals as goal

-- the guard behind the queue allows it
pub store_as_uncounted-requires-clause-allowed : goal.store_as_uncounted-requires-clause-allowed
store_as_uncounted-requires-clause-allowed g c =
    seat_may g.G.Guard.holds g.G.Guard.allows g.M.Means.note c.seat.inside.seat c.args.seat.now c.seat.view_is (stores c.args.i c.args.value) c.requires.allowed

pub returns-clause-pass : goal.returns-clause-pass
returns-clause-pass g c =
    (seat_made g.G.Guard.holds g.G.Guard.allows g.M.Means.note c.seat.inside.seat c.args.seat.now c.seat.view_is (stores c.args.i c.args.value)
    c.store_as_uncounted.ensures.made.0 c.store_as_uncounted.new.seat.pass c.store_as_uncounted.ensures.made.1).0

-- it was made over that guard's words
pub returns-clause-made : goal.returns-clause-made
returns-clause-made g c = (
  c.store_as_uncounted.ensures.made.0,
  (seat_made g.G.Guard.holds g.G.Guard.allows g.M.Means.note c.seat.inside.seat c.args.seat.now c.seat.view_is (stores c.args.i c.args.value)
      c.store_as_uncounted.ensures.made.0 c.store_as_uncounted.new.seat.pass c.store_as_uncounted.ensures.made.1).1,
)
