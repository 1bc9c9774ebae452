use Rattle.std.proofs.Common.{rules}
use Rattle.atomic_table.proofs.Lists.{at_index}
use Rattle.trace_threads.proofs.Touchers.{have_touched}
use Rattle.trace_threads.proofs.touching.play_touching.Goals as goal

-- the closure may be called at each worker, since each is of the space and of the set
pub for_each_mut-requires-clause-accepts : goal.for_each_mut-requires-clause-accepts
for_each_mut-requires-clause-accepts g c κs within = λ i p lt e.
    let t = c.requires.workers i p.now (at_index _ i p.now lt e) in ((t.0, t.1, c.requires.keeps), (search rules, search rules))

-- what was said of each worker's turn by place is said of all
pub returns : goal.returns
returns g c = have_touched c.args.workers.now c.for_each_mut.new.s (search rules)
    (λ k d lt. let r = c.for_each_mut.ensures k d lt in (r.1.argument.now, r.1.after_call.now, r.1.argument_is, r.1.call, r.1.left))
