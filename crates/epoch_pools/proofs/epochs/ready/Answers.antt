use Rattle.std.proofs.Common.{length, arith, ap, ◌∙◌, sym}
use Rattle.lock_core.specs.declared.views.View.{View}
use Rattle.lock_core.proofs.Pigeons.{few_of_seat}
use Rattle.epoch_pools.proofs.epochs.ready.Goals as goal

-- a seat has at most sixteen ready nodes
pub overflow_cast-result : goal.overflow_cast-result
overflow_cast-result g c = let part = c.hand.inside.token.part in
    let few = few_of_seat part.number part.core.ready (λ x. let n = c.hand.invariant.1.sound.sized.nodes.nodes x in omega arith) in
    let same = ap length c.as_slice.ensures
    ∙ (ap (λ (v : View). length v.ready) c.deref.ensures ∙ sym (ap (λ (v : View). length v.ready) c.hand.invariant.0)) in
    omega arith
