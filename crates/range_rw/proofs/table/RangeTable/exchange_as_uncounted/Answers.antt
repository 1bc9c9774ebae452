use Rattle.lock_core.specs.Client.{exchanges}
use Rattle.range_rw.proofs.Seated.{client_seated, seat_allowed, seat_exchanged}
use Rattle.range_rw.proofs.table.RangeTable.exchange_as_uncounted.Goals as goal

-- what counts of the hand is what the seat holds
pub client_exchange-requires-clause-allowed : goal.client_exchange-requires-clause-allowed
client_exchange-requires-clause-allowed g c = seat_allowed g.G.Guard.holds g.G.Guard.allows g.M.Means.note c.seat.inside.hand
    c.seat.view_is (exchanges c.args.i c.args.expected c.args.new) c.requires.allowed

-- it is made of the seat at the moment at which it is made of the hand
pub returns-clause-made : goal.returns-clause-made
returns-clause-made g c = seat_exchanged g.G.Guard.holds g.G.Guard.allows g.M.Means.note c.seat.inside.hand c.seat.view_is (exchanges
    c.args.i c.args.expected c.args.new)
    c.args.expected c.client_exchange.new.hand.part.pass.pass c.client_exchange.result c.client_exchange.ensures.made

-- the hand is between two calls, as before
pub invariant_of-seat : goal.invariant_of-seat
invariant_of-seat g c = client_seated c.seat.inside.hand.part c.client_exchange.new.hand.part c.args.i c.client_exchange.new.hand.part.pass.pass
    c.client_exchange.ensures.part c.seat.invariant
