use Rattle.std.proofs.Common.{rules, ◌≡◌, [], inl, inr, ap, subst}
use Rattle.lock_core.specs.declared.views.View.{View}
use Rattle.epoch_pools.specs.Hands.{HandState}
use Rattle.epoch_pools.specs.Taking.{IsPoolCall, TakesFirst}
use Rattle.epoch_pools.proofs.Taking.{both_calls, takes_filled}
use Rattle.epoch_pools.proofs.barrier.take.Goals as goal
use Rattle.epoch_pools.proofs.barrier.take.Goals.{then-not-has_ready+in_default, else-not-has_ready}

-- the node was the first ready one, or the refill made it ready
pub returns-clause-cause : goal.returns-clause-cause
returns-clause-cause g c = let p = c.args.hand.now.part in let r = c.take_ready.new.self.part in
    let first = c.take_ready.ensures.first in (
      ap (λ (v : View). v.own) first.core,
      elim c.if-not-has_ready.branch [
        | then-not-has_ready+in_default w ↦ let empty : p.core.ready ≡ [] = search rules in
            inr (takes_filled p w.refill.new.self.part r c.take_ready.result w.refill.ensures.on empty c.requires.free.own
            c.has_ready.ensures.sound.pooled.whole w.refill.ensures.sound.pooled.whole (subst (λ h. TakesFirst h.part r c.take_ready.result) w.hand-is first))
        | else-not-has_ready w ↦ inl (subst (λ h. TakesFirst h.part r c.take_ready.result) w.hand-is first)
      ],
    )

-- it is taken at once, or after a refill
pub returns-clause-call : goal.returns-clause-call
returns-clause-call g c = let q = c.take_ready.new.self.part in elim c.if-not-has_ready.branch [
  | then-not-has_ready+in_default w ↦ both_calls c.args.hand.now.part w.refill.new.self.part q w.refill.ensures.on.call
      (subst (λ (h : HandState _). IsPoolCall h.part q) w.hand-is c.take_ready.ensures.call)
  | else-not-has_ready w ↦ subst (λ (h : HandState _). IsPoolCall h.part q) w.hand-is c.take_ready.ensures.call
]
