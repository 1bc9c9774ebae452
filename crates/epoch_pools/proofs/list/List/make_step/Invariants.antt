use Rattle.epoch_pools.proofs.list.List.make_step.Given as goal

-- the step that is made is the one given, in the list to which the token is turned
abbrev pub ghosts-act_at : goal.ghosts-act_at
ghosts-act_at g a = record { doing = a.step; seats = a.self.now.seats; lists = a.token.now.part.pass.lists; list = a.token.now.part.pass.list }
