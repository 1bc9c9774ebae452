use Rattle.std.proofs.Common.{arith}
use Rattle.range_rw.proofs.SeatLists.{first_new, second_new}
use Rattle.test_lock.proofs.pairs.both.Goals as goal

-- the first seat is the new one of number 0
pub returns-clause-first : goal.returns-clause-first
returns-clause-first c = first_new _ (λ _. tt) c.args.seats.items c.remove-first.result (omega (arith, c.requires.two))
    c.requires.new c.remove-first.ensures.value

-- the second seat is the new one of number 1
pub returns-clause-second : goal.returns-clause-second
returns-clause-second c = second_new _ (λ _. tt) c.args.seats.items _ c.remove-second.result c.requires.two c.requires.new
    c.remove-first.ensures.items c.remove-second.ensures.value
