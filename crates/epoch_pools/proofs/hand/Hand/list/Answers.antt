use Rattle.std.proofs.Common.{sym, ap, ◌∙◌}
use Rattle.epoch_pools.specs.Hands.{HandState}
use Rattle.epoch_pools.proofs.hand.Hand.list.Goals as goal

-- what the hand shows is noted in its list
pub returns-clause-noted : goal.returns-clause-noted
returns-clause-noted g c = sym (ap (λ (h : HandState _). h.part.trace.list) c.self.view_is)
    ∙ (c.at.ensures.noted ∙ ap (λ (h : HandState _). h.part.pass.list) c.self.view_is)
