use Rattle.std.proofs.Common.{◌≡◌, sym, subst}
use Rattle.std.specs.Prelude.{◌==◌, ◌||◌}
use Rattle.list_cuts.specs.Cut.{list_count}
use Rattle.epoch_pools.specs.Hands.{HandState}
use Rattle.epoch_pools.specs.Passing.{IsLook, after_look_at, standing_of, held_too}
use Rattle.epoch_pools.proofs.LookSteps.{look_hand}
use Rattle.epoch_pools.proofs.passing.look_from.Goals as goal

-- it is the look that the hand may make
pub look_at-found-requires-clause-may : goal.look_at-found-requires-clause-may
look_at-found-requires-clause-may g c = subst (λ (h : HandState _). IsLook c.args.list.now.cut h.part c.args.at (standing_of c.args.kind h.part)
    (held_too c.args.kind)) (sym c.hand.view_is) c.requires.may

-- its standing is that of the look
pub returns-clause-part : goal.returns-clause-part
returns-clause-part g c = subst (λ (h : HandState _). c.look_at-found.new.token.part
    ≡ after_look_at c.args.at (held_too c.args.kind || c.look_at-found.result == 0) (standing_of c.args.kind h.part) h.part)
    c.hand.view_is c.look_at-found.ensures.part

-- the table has as many lists as its cut
pub returns-clause-lists : goal.returns-clause-lists
returns-clause-lists g c = subst (λ (h : HandState _). h.part.pass.lists ≡ list_count c.args.list.now.cut) c.hand.view_is c.look_at-found.ensures.lists

-- it is a hand still
pub invariant_of-hand : goal.invariant_of-hand
invariant_of-hand g c = look_hand _ _ _ c.look_at-found.ensures.part c.hand.invariant
