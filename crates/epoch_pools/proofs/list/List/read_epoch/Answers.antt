use Rattle.std.proofs.Common.{arith}
use Rattle.lock_core.specs.declared.steps.Step.TheVariants.{ReadEpoch}
use Rattle.epoch_pools.specs.Beside.{given_back}
use Rattle.epoch_pools.specs.Running.{Enables}
use Rattle.epoch_pools.specs.Taking.{IsLooking, IsEpochLook}
use Rattle.epoch_pools.proofs.Taking.{may_read_epoch, epoch_looking, epoch_look}
use Rattle.epoch_pools.proofs.list.List.read_epoch.Given.{Over}
use Rattle.epoch_pools.proofs.list.List.read_epoch.Goals as goal
use Rattle.epoch_pools.proofs.list.List.read_epoch.Goals.{After-get}

-- the load is a look; the candidates are ready, or they wait on and it is known of that seat whether it is inside
look : (g : Over) (c : After-get g) → IsLooking c.args.token.now.part c.get.new.token.part
    × IsEpochLook c.args.token.now.part c.get.new.token.part c.args.other
look g c = let p = c.args.token.now.part in let passed = c.requires.sound.sound.sized.passed in
    let notes = c.requires.sound.sound.sized.notes in let there = c.requires.there in
    let may : Enables p (ReadEpoch c.args.other) =
    may_read_epoch p.seats p.number p.core c.args.other c.requires.free c.requires.homes there c.requires.other in (
      epoch_looking (given_back g.G.Guard.rested) p c.get.new.token.part c.args.other c.get.result c.requires.free may c.get.ensures.part
          (omega arith) (omega arith),
      epoch_look (given_back g.G.Guard.rested) p c.get.new.token.part c.args.other c.get.result c.requires.free may c.get.ensures.part
          (omega arith) (omega arith) c.requires.homes,
    )

pub returns-clause-on : goal.returns-clause-on
returns-clause-on g c = (look g (goal.at.returns-clause-on g c).After-get).0

pub returns-clause-looked : goal.returns-clause-looked
returns-clause-looked g c = (look g (goal.at.returns-clause-looked g c).After-get).1
