use Rattle.std.proofs.Common.{ap, ◌∙◌, []}
use Rattle.epoch_pools.specs.Hands.{turned, part_in}
use Rattle.epoch_pools.proofs.Turning.{shown_turned}
use Rattle.epoch_pools.proofs.token.Token.turn.Goals as goal

-- the seat is shown by the other list
pub returns-clause-part : goal.returns-clause-part
returns-clause-part g c = shown_turned c.self.inside.lists c.self.inside.list c.args.list (part_in (g.G.Guard.first [] 0) c.self.inside.seat.me.0.parts)
    c.self.invariant.2.full c.self.invariant.2.within ∙ ap (λ s. turned s.part c.args.list) c.self.view_is
