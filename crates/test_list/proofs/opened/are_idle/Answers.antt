use Rattle.std.proofs.Common.{rules, arith}
use Rattle.lock_core.proofs.ByPlace.{below}
use Rattle.epoch_pools.specs.Hands.{IsIdle}
use Rattle.test_list.proofs.Hands.{idle_more}
use Rattle.test_list.proofs.opened.are_idle.Goals as goal

-- the hand that was looked at is idle, as those before it are
pub hands-preserved : goal.hands-preserved
hands-preserved c =
    let here : IsIdle c.index-hands-i.result.part.core = search rules in
    idle_more c.args.hands.now c.hands.i c.index-hands-i.result c.hands.invariant (search rules) c.index-hands-i.is here

-- all hands were looked at
pub returns : goal.returns
returns c = λ k h at. c.hands.invariant k h (let less = below c.args.hands.now k h at in omega arith) at
