use Rattle.std.proofs.Common.{rules}
use Rattle.epoch_pools.specs.Taking.{IsLooking}
use Rattle.epoch_pools.proofs.Taking.{both_looks}
use Rattle.epoch_pools.proofs.hand.Hand.look_epochs.Goals as goal

-- the looks so far and one more are a look
pub returns-then-has_ready-clause-on : goal.returns-then-has_ready-clause-on
returns-then-has_ready-clause-on g c = both_looks c.args.self.now.part c.seats.self.part c.look_epoch.new.self.part c.seats.invariant.on
    c.look_epoch.ensures.on

-- and the candidates wait on
pub seats-preserved : goal.seats-preserved
seats-preserved g c = let on : IsLooking c.args.self.now.part c.look_epoch.new.self.part = both_looks c.args.self.now.part c.seats.self.part
    c.look_epoch.new.self.part c.seats.invariant.on c.look_epoch.ensures.on in record {
      table = search rules;
      on = on;
      empty = search rules;
      used = search rules;
      homes = search rules;
      known = search rules;
      barred = search rules;
      taken = search rules;
      counted = search rules;
    }
