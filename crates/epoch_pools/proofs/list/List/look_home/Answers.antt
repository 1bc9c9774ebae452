use Rattle.std.proofs.Common.{arith}
use Rattle.epoch_pools.proofs.list.List.look_home.Goals as goal

-- a used node that came home finds room among the homes
pub push-requires : goal.push-requires
push-requires g c = let room = c.requires.beside.room in let less = c.read_home-found.ensures.room in omega arith
