use Rattle.std.proofs.Common.{rules}
use Rattle.atomic_table.proofs.Lists.{at_index}
use Rattle.trace_threads.proofs.Plays.{have_played}
use Rattle.trace_threads.proofs.playing.play_all.Goals as goal

-- the closure may be called at each worker, since each is of the space's table
pub for_each_mut-requires-clause-accepts : goal.for_each_mut-requires-clause-accepts
for_each_mut-requires-clause-accepts g c κs within = λ i p lt e.
    ((c.requires.workers i p.now (at_index _ i p.now lt e), c.requires.keeps), (search rules, search rules))

-- what was said of each worker's turn by place is said of all
pub returns : goal.returns
returns g c = have_played c.args.workers.now c.for_each_mut.new.s (search rules)
    (λ k d lt. let r = c.for_each_mut.ensures k d lt in (r.1.argument.now, r.1.after_call.now, r.1.argument_is, r.1.call, r.1.left))
