use Rattle.std.proofs.Common.{◌≡◌, ◌<◌, sym, ap, ◌∙◌, subst}
use Rattle.lock_core.specs.StepTable.{Plan}
use Rattle.lock_core.specs.Operations.{Writes}
use Rattle.epoch_pools.specs.Beside.{given_back}
use Rattle.epoch_pools.specs.declared.views.SeatPart.{SeatPart}
use Rattle.lock_core.specs.Machine.{held_at}
use Rattle.epoch_pools.specs.Running.{Enables, line_for, core_after, part_after, Told}
use Rattle.epoch_pools.specs.Hands.{HandState, IsHandView, AreOthers}
use Rattle.epoch_pools.proofs.Stepping.{line_again, answered, told_again, zero_after, hand_after}
use Rattle.epoch_pools.proofs.Turning.{others_kept}
use Rattle.epoch_pools.proofs.hand.Hand.make_with.Given.{Over}
use Rattle.epoch_pools.proofs.hand.Hand.make_with.Goals as goal
use Rattle.epoch_pools.proofs.hand.Hand.make_with.Goals.{After-perform-found}

-- the operation is that of the line of the step, which the token's part enables
writes : (g : Over) (c : After-perform-found g) → Writes c.args.step (line_for c.self.inside.token.part c.args.step) c.args.op.act
writes g c = subst (λ (h : HandState _). Writes c.args.step (line_for h.part c.args.step) c.args.op.act) (sym c.self.view_is) c.requires.op.1

may : (g : Over) (c : After-perform-found g) → Enables c.self.inside.token.part c.args.step
may g c = subst (λ (h : HandState _). Enables h.part c.args.step) (sym c.self.view_is) c.requires.enabled

-- so what the step leaves and says is told by what the operation returned
made : (g : Over) (c : After-perform-found g) → c.perform-found.new.token.part
    ≡ part_after (given_back g.G.Guard.rested) c.self.inside.token.part c.args.step c.perform-found.result
made g c = let m = c.perform-found.ensures.made in
    m.1 ∙ answered (given_back g.G.Guard.rested) c.self.inside.token.part c.args.step c.args.op.act m.0 c.perform-found.result (writes g c) m.3

told : (g : Over) (c : After-perform-found g) → Told c.args.list.now.seats c.self.inside.token.part c.args.step c.perform-found.result
told g c = let m = c.perform-found.ensures.made in
    told_again (given_back g.G.Guard.rested) c.self.inside.token.part c.args.step c.args.list.now.seats c.args.op.act m.0 c.perform-found.result (writes g c)
    m.3 m.2

-- the hand's own view is the one that belongs to its number, and may be relied on
pub invariant_of-self : goal.invariant_of-self
invariant_of-self g c = let k = (goal.at.invariant_of-self g c).After-perform-found in
    let q = c.self.inside.token.part in let step = c.args.step in let result = c.perform-found.result in let all = made g k in
    let many = ap (λ h. h.part.seats) c.self.view_is ∙ sym c.seats-seats.ensures.seats in
    let number = ap (λ h. h.part.number) c.self.view_is ∙ sym c.number-number.ensures.number in
    let line = line_again q _ _ c.deref_mut.result.now step many number (c.self.invariant.0 ∙ sym c.deref_mut.ensures.value) in
    let less : q.number < q.seats = subst (λ (h : HandState _). h.part.number < h.part.seats) (sym c.self.view_is)
    (subst (λ n. n < c.args.self.now.part.seats) c.number-number.ensures.number c.number-number.ensures.there) in (
      ap (λ (x : SeatPart _). x.core) all ∙ sym (c.follow.ensures ∙ ap (λ (l : Plan). l.view result) line),
      subst IsHandView (sym all) (hand_after q (given_back g.G.Guard.rested) step result c.args.list.now.seats less (may g k) c.self.invariant.1 (told g k)),
      subst (λ (x : SeatPart _). AreOthers x.seats x.number x.pass.lists x.pass.list x.pass.others c.self.inside.others) (sym all)
          (others_kept g.G.Guard.rested (held_at q.core.own) (held_at
          (core_after q step result).own) q.pass q.seats q.number c.self.inside.others c.self.invariant.2),
    )

-- what belongs to the hand's number is what the step's line says
pub returns-clause-made : goal.returns-clause-made
returns-clause-made g c = made g (goal.at.returns-clause-made g c).After-perform-found
    ∙ ap (λ (h : HandState _). part_after (given_back g.G.Guard.rested) h.part c.args.step c.perform-found.result) c.self.view_is

-- what the step says beside, of what it returned
pub returns-clause-told : goal.returns-clause-told
returns-clause-told g c = subst (λ (h : HandState _). Told c.args.list.now.seats h.part c.args.step c.perform-found.result) c.self.view_is
    (told g (goal.at.returns-clause-told g c).After-perform-found)

-- a store returns 0
pub returns-clause-store : goal.returns-clause-store
returns-clause-store g c = λ st. let k = (goal.at.returns-clause-store g c).After-perform-found in let m = c.perform-found.ensures.made in
    zero_after (given_back g.G.Guard.rested) c.self.inside.token.part c.args.step c.args.op.act m.0 c.perform-found.result (may g k) (writes g k) m.3 st
