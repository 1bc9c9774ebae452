use Rattle.epoch_pools.specs.Passing.{standing_of, held_too}
use Rattle.epoch_pools.proofs.passing.look_from.Given as goal

-- the look is that of the kind, in the list to which the token is turned
abbrev pub ghosts-look_at : goal.ghosts-look_at
ghosts-look_at g a = record {
  cut = a.self.now.cut;
  standing = standing_of a.kind a.token.now.part;
  too = held_too a.kind;
  lists = a.token.now.part.pass.lists;
  list = a.token.now.part.pass.list;
  at = a.list;
}
