use Rattle.std.proofs.Common.{ap}
use Rattle.raw_logs.specs.declared.spaces.Home.{Home}
use Rattle.raw_logs.specs.declared.spaces.Space.{Space}
use Rattle.raw_logs.proofs.HomeFacts.{spaces_put}
use Rattle.raw_logs.proofs.spaces.add_home.Goals as goal

pub returns : goal.returns
returns c =
    let home_of : Space → Home = (λ m. record { maker = m; place = c.args.link.place; kind = c.args.link.kind; exec = c.args.link.exec }) in
    spaces_put c.put_home.result c.args.homes.now c.put_home.new.homes c.args.link (home_of c.space_in.result) c.from_of-from.result
    (ap home_of c.space_in.ensures) c.from_of-from.ensures c.put_home.ensures.is c.put_home.ensures.others
