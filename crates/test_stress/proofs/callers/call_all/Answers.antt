use Rattle.std.proofs.Common.{rules}
use Rattle.atomic_table.proofs.Lists.{at_index}
use Rattle.test_crews.proofs.Crews.{crew_back, crew_called}
use Rattle.test_stress.proofs.callers.call_all.Goals as goal

-- each caller of the crew is of its space and holds nothing
pub for_each_mut-requires-clause-accepts : goal.for_each_mut-requires-clause-accepts
for_each_mut-requires-clause-accepts g c = λ _ _ i p lt e. let r = c.requires.crew.idle i p.now (at_index _ i p.now lt e) in (r.0, r.2, c.requires.told)

-- a crew whose callers are each back, and have made so many calls
pub returns : goal.returns
returns g c = record {
  crew = crew_back c.args.space.now.table c.args.space.now.seats c.args.callers.now c.for_each_mut.new.s (search rules) c.requires.crew
      (λ k d lt. let r = c.for_each_mut.ensures k d lt in (r.1.argument.now, r.1.after_call.now, r.1.argument_is, r.1.call.0, r.1.left));
  called = crew_called c.args.calls c.args.callers.now c.for_each_mut.new.s
      (λ k d lt. let r = c.for_each_mut.ensures k d lt in (r.1.argument.now, r.1.after_call.now, r.1.argument_is, r.1.call.1, r.1.left));
}
