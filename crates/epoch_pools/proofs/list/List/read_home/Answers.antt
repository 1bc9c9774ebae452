use Rattle.std.proofs.Common.{rules, arith}
use Rattle.lock_core.specs.declared.steps.Step.TheVariants.{ReadHome}
use Rattle.epoch_pools.specs.Beside.{given_back}
use Rattle.epoch_pools.specs.Running.{Enables}
use Rattle.epoch_pools.proofs.Taking.{home_look}
use Rattle.epoch_pools.proofs.Looking.{awaited_there, awaited_room}
use Rattle.epoch_pools.proofs.list.List.read_home.Goals as goal

-- a used node is one of the list's
pub home-place-requires : goal.home-place-requires
home-place-requires g c = let s = c.seat_count.ensures in
    let there = awaited_there c.args.token.now.part c.args.node c.requires.sound s.there s.few c.requires.awaited in
    let many = s.seats in let seats = c.of.ensures.seats in omega arith

-- it is known whether the node came home
pub returns-clause-looked : goal.returns-clause-looked
returns-clause-looked g c = let p = c.args.token.now.part in let may : Enables p (ReadHome c.args.node) = search rules in
    home_look (given_back g.G.Guard.rested) p c.get.new.token.part c.args.node c.get.result c.requires.free may c.get.ensures.part

-- the ready nodes and the homes leave room for it
pub returns-clause-room : goal.returns-clause-room
returns-clause-room g c =
    awaited_room c.args.token.now.part c.args.node c.requires.sound c.seat_count.ensures.there c.seat_count.ensures.few c.requires.awaited
