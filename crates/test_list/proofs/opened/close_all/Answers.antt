use Rattle.std.proofs.Common.{List, subst, arith}
use Rattle.epoch_pools.specs.declared.views.Beside.{Beside}
use Rattle.epoch_pools.specs.Hands.{HandState}
use Rattle.test_list.specs.Trials.{AreAllIdle}
use Rattle.test_list.proofs.Hands.{idle_in_order}
use Rattle.test_list.proofs.opened.close_all.Goals as goal

-- the hands are in order, and each was found to be idle
pub close-requires-clause-idle : goal.close-requires-clause-idle
close-requires-clause-idle c = idle_in_order c.args.list.table c.args.hands.items c.requires.order
    (subst (λ (l : List (HandState (Beside (Unit {0})))). AreAllIdle l) c.as_slice.ensures.value c.if-not-are_idle.ensures)

-- the table has no other list
pub close-requires-clause-others : goal.close-requires-clause-others
close-requires-clause-others c = λ several. absurd (let one = c.requires.one in omega arith)
