use Rattle.std.proofs.Common.{rules}
use Rattle.atomic_table.proofs.Lists.{at_index}
use Rattle.epoch_pools.specs.Hands.{AreIdleHands}
use Rattle.test_list.proofs.Hands.{hands_back}
use Rattle.test_list.proofs.keeping.count_all.Goals as goal

-- each hand is of the list, which has a client word
pub for_each_mut-requires-clause-accepts : goal.for_each_mut-requires-clause-accepts
for_each_mut-requires-clause-accepts g c = λ _ _ i p lt e. ((c.requires.order i p.now (at_index _ i p.now lt e)).0, c.requires.word)

-- each hand is of the same list and number, and idle
pub returns : goal.returns
returns g c =
    let idle : AreIdleHands c.args.list.now.table c.for_each_mut.new.s =
    hands_back c.args.list.now.table c.args.hands.now c.for_each_mut.new.s (search rules) c.requires.order
    (λ k d lt. let r = c.for_each_mut.ensures k d lt in (r.1.argument.now, r.1.after_call.now, r.1.argument_is, r.1.call.0, r.1.call.1, r.1.left)) in
    record { order = λ k h at. let i = idle k h at in (i.0, i.1); idle = idle }
