use Rattle.std.proofs.Common.{rules}
use Rattle.atomic_table.proofs.Lists.{at_index}
use Rattle.range_rw.proofs.SeatLists.{seats_back}
use Rattle.test_stress.proofs.seats.play_seats.Goals as goal

-- each seat is of the table and holds nothing, and the table has the words of all slots
pub for_each_mut-requires-clause-accepts : goal.for_each_mut-requires-clause-accepts
for_each_mut-requires-clause-accepts g c = λ _ _ i p lt e. let r = c.requires.idle i p.now (at_index _ i p.now lt e) in (r.0, r.2, c.requires.slots)

-- each seat is back, with nothing held
pub returns : goal.returns
returns g c = record {
  idle = seats_back c.args.table.now.table c.args.seats.now c.for_each_mut.new.s (search rules) c.requires.idle
      (λ k d lt. let r = c.for_each_mut.ensures k d lt in (r.1.argument.now, r.1.after_call.now, r.1.argument_is, r.1.call, r.1.left));
}
