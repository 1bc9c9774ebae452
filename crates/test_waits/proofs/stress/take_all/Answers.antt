use Rattle.atomic_table.proofs.Lists.{at_index}
use Rattle.test_waits.proofs.stress.take_all.Goals as goal

-- each seat is free
pub for_each_mut-requires-clause-accepts : goal.for_each_mut-requires-clause-accepts
for_each_mut-requires-clause-accepts g c = λ _ _ i p lt e. c.requires.idle i p.now (at_index _ i p.now lt e)
