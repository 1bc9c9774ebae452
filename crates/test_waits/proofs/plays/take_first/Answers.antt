use Rattle.std.proofs.Common.{arith}
use Rattle.atomic_table.proofs.Lists.{at_index}
use Rattle.test_waits.proofs.Seats.{idle_rest}
use Rattle.test_waits.proofs.plays.take_first.Goals as goal

-- it is one of these seats
pub returns-clause-first : goal.returns-clause-first
returns-clause-first c = c.requires.idle 0 c.remove.result (at_index c.args.seats.now.items 0 c.remove.result c.requires.some c.remove.ensures.value)

-- and so are the others
pub returns-clause-rest : goal.returns-clause-rest
returns-clause-rest c = idle_rest c.args.table.now.lock.table c.args.table.now.events.table c.args.seats.now.items c.remove.new.self.items c.requires.some
    c.requires.idle c.remove.ensures.items
