use Rattle.std.proofs.Common.{arith}
use Rattle.range_queue.proofs.Announced.{ticket_told}
use Rattle.range_queue.proofs.table.QueueTable.gives_way.Goals as goal

-- the seat keeps how many seats there are, and the ticket of its announcement
pub look-requires-clause-seats : goal.look-requires-clause-seats
look-requires-clause-seats g c = let s = c.seat.invariant in let low = s.low in (s.seats_are, s.few, omega arith)

pub look-requires-clause-mine : goal.look-requires-clause-mine
look-requires-clause-mine g c = ticket_told c.seat.inside.seat.pass.telling c.seat.inside.ticket c.seat.invariant.told
