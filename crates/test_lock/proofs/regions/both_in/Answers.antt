use Rattle.std.proofs.Common.{ap, arith}
use Rattle.list_cuts.specs.Cut.{list_count}
use Rattle.range_rw.specs.Contract.{SeatState}
use Rattle.range_rw.proofs.SeatLists.{first_new_in, second_new_in}
use Rattle.test_lock.proofs.regions.both_in.Goals as goal

-- the first seat is the new one of number 0
pub returns-clause-first : goal.returns-clause-first
returns-clause-first c =
    let e = first_new_in _ (list_count c.args.table.now.cut) (λ _. tt) c.args.seats.items c.remove-first.result (omega (arith, c.requires.two))
    c.requires.new c.remove-first.ensures.value in (ap (λ (s : SeatState _). s.table) e, ap (λ (s : SeatState _). s.held) e)

-- the second seat is the new one of number 1
pub returns-clause-second : goal.returns-clause-second
returns-clause-second c =
    let e = second_new_in _ (list_count c.args.table.now.cut) (λ _. tt) c.args.seats.items _ c.remove-second.result c.requires.two c.requires.new
    c.remove-first.ensures.items c.remove-second.ensures.value in (ap (λ (s : SeatState _). s.table) e, ap (λ (s : SeatState _). s.held) e)
