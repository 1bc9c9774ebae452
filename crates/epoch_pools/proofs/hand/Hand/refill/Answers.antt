use Rattle.std.proofs.Common.{rules, ◌≡◌, ◌≢◌, ◌<◌, [], arith}
use Rattle.epoch_pools.proofs.Taking.{both_looks, not_alone, stuck_on}
use Rattle.epoch_pools.proofs.hand.Hand.refill.Goals as goal

-- a hand with a node that waits isn't alone
pub look_epochs-requires-clause-many : goal.look_epochs-requires-clause-many
look_epochs-requires-clause-many g c = let q = c.look_homes.new.self.part in let homes : q.core.homes ≢ [] = search rules in
    let number = c.look_homes.ensures.on.call.number in let seats = c.look_homes.ensures.on.call.seats in
    let there : q.number < q.seats = omega arith in not_alone q.seats q.number q.core c.has_homes.ensures.sound.pooled homes there

-- no node is ready, and the first seat inside is the cause
pub returns-clause-filled : goal.returns-clause-filled
returns-clause-filled g c = let q = c.look_homes.new.self.part in let r = c.look_epochs.new.self.part in
    let empty : r.core.ready ≡ [] = search rules in
    let homes : q.core.homes ≢ [] = search rules in (
      empty,
      stuck_on c.args.self.now.part q r c.held_up.result c.look_homes.ensures.on.call.list c.look_homes.ensures.on.call.taken
          (c.look_epochs.ensures.barred empty) homes c.has_ready-2.ensures.sound.sound.sized c.held_up.ensures,
    )

-- the looks at homes and at epochs are a look
pub returns-then-has_ready-2-clause-on : goal.returns-then-has_ready-2-clause-on
returns-then-has_ready-2-clause-on g c = both_looks c.args.self.now.part c.look_homes.new.self.part c.look_epochs.new.self.part c.look_homes.ensures.on
    c.look_epochs.ensures.on

-- also where no node came to be ready
pub returns-clause-on : goal.returns-clause-on
returns-clause-on g c = both_looks c.args.self.now.part c.look_homes.new.self.part c.look_epochs.new.self.part c.look_homes.ensures.on
    c.look_epochs.ensures.on
