use Rattle.std.proofs.Common.{◌*◌, rules}
use Rattle.atomic_table.proofs.Lists.{at_index}
use Rattle.range_rw.proofs.SeatLists.{seats_back, seats_each}
use Rattle.test_lock.specs.Turns.{HasAdded, HasMade}
use Rattle.test_lock.proofs.crowd.add_all.Goals as goal

-- each seat is of the table and holds nothing, and the table has the word
pub for_each_mut-requires-clause-accepts : goal.for_each_mut-requires-clause-accepts
for_each_mut-requires-clause-accepts g c = λ _ _ i p lt e. let r = c.requires.idle i p.now (at_index _ i p.now lt e) in (r.0, r.2, c.requires.word)

-- each seat is back, has made its steps and added as often as asked
pub returns : goal.returns
returns g c = record {
  idle = seats_back c.args.table.now.table c.args.seats.now c.for_each_mut.new.s (search rules) c.requires.idle
      (λ k d lt. let r = c.for_each_mut.ensures k d lt in (r.1.argument.now, r.1.after_call.now, r.1.argument_is, r.1.call.0, r.1.left));
  made = seats_each (λ k. HasMade (3 * c.args.turns)) c.args.seats.now c.for_each_mut.new.s
      (λ k d lt. let r = c.for_each_mut.ensures k d lt in (r.1.argument.now, r.1.after_call.now, r.1.argument_is, r.1.call.1, r.1.left));
  added = seats_each (λ k. HasAdded c.args.turns) c.args.seats.now c.for_each_mut.new.s
      (λ k d lt. let r = c.for_each_mut.ensures k d lt in (r.1.argument.now, r.1.after_call.now, r.1.argument_is, r.1.call.2, r.1.left));
}
